-- A run of acts, told call by call.
--   Told s as rs v   from the floor s, the acts are replied rs, one after the other, and leave the floor v
use Rattle.std.proofs.Common.{◌≡◌, List, [], ◌∷◌}
use Rattle.rules.specs.Plain.{Act}
use Rattle.rules.specs.Replies.{Reply, Replied, left_by, accepted}
use Rattle.rules.specs.State.{State}

abbrev pub Told : State → List Act → List Reply → State → Type 0
Told s [] [] v = v ≡ s
Told s [] (r ∷ rs) v = ⊥
Told s (a ∷ as') [] v = ⊥
Told s (a ∷ as') (r ∷ rs) v = Replied s a r × Told (left_by r s (accepted s a)) as' rs v

-- A run, one call longer.
use Rattle.std.proofs.Common.{◌≡◌, ℕ, ◌+◌, ◌<◌, ◌≤◌, List, [], ◌∷◌, ◌++◌, map, length, get_or, take, sym, refl, ap, ◌∙◌, subst}
use Rattle.std.proofs.lemmas.List.{take_more, take_all}
use Rattle.rules.specs.Plain.{Act}
use Rattle.rules.specs.Replies.{Reply, Replied, left_by, accepted}
use Rattle.rules.specs.State.{State}
use Rattle.runs.specs.Acts.{act_of}
use Rattle.runs.proofs.Told.{Told}
use Rattle.runs.specs.declared.call.Call.{Call}

one_more : (s v w : State) (a : Act) (r : Reply) → v ≡ s → Replied v a r → w ≡ left_by r v (accepted v a) → Replied s a r × (w ≡ left_by r s (accepted s a))
one_more s v w a r e q p = (subst (λ (z : State). Replied z a r) e q, p ∙ ap (λ (z : State). left_by r z (accepted z a)) e)

told_push : (as' : List Act) (rs : List Reply) (s v w : State) (a : Act) (r : Reply) → Told s as' rs v → Replied v a r → w ≡ left_by r v (accepted v a) →
    Told s (as' ++ (a ∷ [])) (rs ++ (r ∷ [])) w
told_push [] [] s v w a r t q p = one_more s v w a r t q p
told_push [] (x ∷ rs) s v w a r t q p = absurd t
told_push (b ∷ as') [] s v w a r t q p = absurd t
told_push (b ∷ as') (x ∷ rs) s v w a r t q p = (t.0, told_push as' rs (left_by x s (accepted s b)) v w a r t.1 q p)

acts_push : (cs : List Call) (c : Call) → map act_of (cs ++ (c ∷ [])) ≡ map act_of cs ++ (act_of c ∷ [])
acts_push [] c = refl
acts_push (x ∷ cs) c = ap (λ (z : List Act). act_of x ∷ z) (acts_push cs c)

pub told_start : (s : State) (rs : List Reply) → rs ≡ [] → Told s [] rs s
told_start s rs e = subst (λ (z : List Reply). Told s [] z s) (sym e) refl

pub told_next : (s v w : State) (cs : List Call) (i : ℕ) (c : Call) (rs qs : List Reply) (r : Reply) → i < length cs → c ≡ get_or cs i c → Told s (map act_of (take i cs)) rs v →
    Replied v (act_of c) r → w ≡ left_by r v (accepted v (act_of c)) → qs ≡ rs ++ (r ∷ []) → Told s (map act_of (take (i + 1) cs)) qs w
told_next s v w cs i c rs qs r h ec t a e q =
    let more : map act_of (take (i + 1) cs) ≡ map act_of (take i cs) ++ (act_of c ∷ []) =
    ap (map act_of) (take_more cs i c h ∙ ap (λ (z : Call). take i cs ++ (z ∷ [])) (sym ec)) ∙ acts_push (take i cs) c in
    subst (λ (z : List Reply). Told s (map act_of (take (i + 1) cs)) z w) (sym q)
    (subst (λ (z : List Act). Told s z (rs ++ (r ∷ [])) w) (sym more) (told_push (map act_of (take i cs)) rs s v w (act_of c) r t a e))

pub told_end : (s u v : State) (cs : List Call) (i : ℕ) (rs : List Reply) → u ≡ s → length cs ≤ i → Told u (map act_of (take i cs)) rs v → Told s (map act_of cs) rs v
told_end s u v cs i rs e h t =
    subst (λ (z : State). Told z (map act_of cs) rs v) e (subst (λ (z : List Call). Told u (map act_of z) rs v) (take_all i cs h) t)

-- A run of calls is a run of steps, and so has the law of whole runs.
use Rattle.std.proofs.Common.{◌≡◌, List, [], ◌∷◌, map, sym, ap, subst}
use Rattle.ledger.specs.Books.{Book, Room, Lawful}
use Rattle.tape.specs.Tapes.{Contents}
use Rattle.rules.specs.Replies.{Reply, left_by, accepted}
use Rattle.rules.specs.State.{State, new_floor}
use Rattle.rules.specs.Steps.{Desk, Ran}
use Rattle.whole_runs.specs.Law.{Law, new_desk}
use Rattle.whole_runs.proofs.Runs.{lawful_runs}
use Rattle.runs.specs.declared.call.Call.{Call}
use Rattle.runs.specs.Acts.{act_of, steps_of, outcomes_of, no_sharing}
use Rattle.runs.proofs.Told.{Told}

abbrev at_desk : State → Room → Desk
at_desk s room = record { state = s; room = room }

-- calls leave the room for pairs
ran_of : (cs : List Call) (rs : List Reply) (s v : State) (room : Room) → Told s (map act_of cs) rs v → Ran no_sharing (at_desk s room) (steps_of cs) (outcomes_of rs) (at_desk v room)
ran_of [] [] s v room t = ap (λ (z : State). at_desk z room) t
ran_of [] (r ∷ rs) s v room t = absurd t
ran_of (c ∷ cs) [] s v room t = absurd t
ran_of (c ∷ cs) (r ∷ rs) s v room t = (t.0, ran_of cs rs (left_by r s (accepted s (act_of c))) v room t.1)

pub law_of : (m : Book) (room left : Room) (t : Contents) (cs : List Call) (rs : List Reply) (v : State) → Lawful m → Told (new_floor m t) (map act_of cs) rs v → left ≡ room →
    Law no_sharing (new_desk m room t) (steps_of cs) (outcomes_of rs) (record { state = v; room = left })
law_of m room left t cs rs v law told e =
    let P : Room → Type 0 = λ z. Law no_sharing (new_desk m room t) (steps_of cs) (outcomes_of rs) (at_desk v z) in
    subst P (sym e) (lawful_runs no_sharing m room t (steps_of cs) (outcomes_of rs) (at_desk v room) law (ran_of cs rs (new_floor m t) v room told))

-- The desk that the run begins with, and the bytes at the end.
use Rattle.std.proofs.Common.{◌≡◌, ℕ, ◌+◌, ◌*◌, List, [], IfOk, Ok, Err, vec_items, Result, Vec, ap, ◌∙◌, subst}
use Rattle.std.specs.declared.alloc.Global.{Global}
use Rattle.ledger.specs.Books.{Book, Room}
use Rattle.line_ledger.specs.Opening.{no_pairs, room_of}
use Rattle.two_house.specs.Houses.{both, both_room}
use Rattle.layout.specs.Bytes.{tape_bytes}
use Rattle.byte_tape.specs.Stored.{capacity_of}
use Rattle.tape.specs.Tapes.{Contents}
use Rattle.rules.specs.Steps.{Desk}
use Rattle.sheet.specs.declared.fault.Fault.{Fault}
use Rattle.sheet.specs.Handing.{opening}
use Rattle.answers.specs.Answers.{Answer}
use Rattle.whole_runs.specs.Law.{new_desk}
use Rattle.practice.specs.Working.{Practised}
use Rattle.sheet_tape.specs.Taping.{begun, share, Taped}

pub begins : (w : Book) (z : Room) (m n : Book) (x y p q pairs b lines : ℕ) (t : Contents) → w ≡ both m n → z ≡ both_room (λ i. x) (λ i. y) → m ≡ no_pairs → n ≡ no_pairs → x ≡ room_of p 0 → y ≡ room_of q 0 → p ≡ pairs → q ≡ pairs → t ≡ record { date = 0; capacity = capacity_of b; lines = [] } → b ≡ lines * 48 + 16 → new_desk w z t ≡ begun pairs lines
begins w z m n x y p q pairs b lines t ew ez em en ex ey ep eq et eb =
    let each : ℕ → Room = λ k i. k in
    let blank : ℕ → Contents = λ k. record { date = 0; capacity = capacity_of k; lines = [] } in
    ap (λ (v : Book). new_desk v z t) (ew ∙ ap (λ (v : Book). both v n) em ∙ ap (λ (v : Book). both no_pairs v) en)
    ∙ ap (λ (v : Room). new_desk (both no_pairs no_pairs) v t)
    (ez
    ∙ ap (λ (v : ℕ). both_room (each v) (λ i. y)) (ex ∙ ap (λ (v : ℕ). room_of v 0) ep)
    ∙ ap (λ (v : ℕ). both_room (λ i. room_of pairs 0) (each v)) (ey ∙ ap (λ (v : ℕ). room_of v 0) eq))
    ∙ ap (λ (v : Contents). new_desk (both no_pairs no_pairs) (both_room (λ i. room_of pairs 0) (λ i. room_of pairs 0)) v) (et ∙ ap blank eb)

pub tapes : {E : Type 0} (r : Result (Vec ℕ Global) E) (d b e : Desk) (t bs : List ℕ) (as' : Result (Vec Answer Global) Fault) → d ≡ b → Practised share d (opening t) as' e → bs ≡ tape_bytes e.state.tape.date e.state.tape.lines → IfOk r (λ v. vec_items v ≡ bs) → IfOk r (λ v. Taped b t (vec_items v))
tapes (Ok v) d b e t bs as' h p w m = record { answers = as'; end = e; practised = subst (λ (x : Desk). Practised share x (opening t) as' e) h p; bytes = m ∙ w }
tapes (Err x) d b e t bs as' h p w m = tt

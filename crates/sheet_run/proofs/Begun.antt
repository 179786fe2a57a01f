-- The desk that the program begins with, and the text at the end.
use Rattle.std.proofs.Common.{◌≡◌, ℕ, min, List, [], IfOk, Ok, Err, string_bytes, Result, Vec, String, ap, ◌∙◌, subst}
use Rattle.std.specs.declared.alloc.Global.{Global}
use Rattle.ledger.specs.Books.{Book, Room}
use Rattle.line_ledger.specs.Opening.{no_pairs, room_of}
use Rattle.line_ledger.specs.Sharing.{all_share}
use Rattle.tape.specs.Tapes.{Contents}
use Rattle.rules.specs.Steps.{Desk}
use Rattle.sheet.specs.declared.fault.Fault.{Fault}
use Rattle.sheet.specs.Handing.{opening}
use Rattle.answers.specs.Answers.{Answer}
use Rattle.answers.specs.Rows.{printed}
use Rattle.whole_runs.specs.Law.{new_desk}
use Rattle.practice.specs.Working.{Practised}
use Rattle.sheet_run.specs.Printing.{begun, Printed}

pub begins : (m : Book) (x places pairs count lines : ℕ) (t : Contents) → m ≡ no_pairs → x ≡ room_of places 0 → places ≡ pairs → t ≡ record { date = 0; capacity = min count 4096; lines = [] } → count ≡ lines → new_desk m (λ i. x) t ≡ begun pairs lines
begins m x places pairs count lines t em ex ep et ec =
    let each : ℕ → Room = λ n i. n in
    let blank : ℕ → Contents = λ n. record { date = 0; capacity = min n 4096; lines = [] } in
    ap (λ (v : Book). new_desk v (λ i. x) t) em
    ∙ ap (λ (v : ℕ). new_desk no_pairs (each v) t) (ex ∙ ap (λ (v : ℕ). room_of v 0) ep)
    ∙ ap (λ (v : Contents). new_desk no_pairs (λ i. room_of pairs 0) v) (et ∙ ap blank ec)

pub prints : {E : Type 0} (r : Result (String Global) E) (d b e : Desk) (t : List ℕ) (as' : Result (Vec Answer Global) Fault) → d ≡ b → Practised all_share d (opening t) as' e → IfOk r (λ s. string_bytes s ≡ printed as') → IfOk r (λ s. Printed b t (string_bytes s))
prints (Ok s) d b e t as' h p w = record { answers = as'; end = e; practised = subst (λ (v : Desk). Practised all_share v (opening t) as' e) h p; text = w }
prints (Err x) d b e t as' h p w = tt

-- A sheet run on a new floor has the law of whole runs.
use Rattle.std.proofs.Common.{List, [], IfOk, Ok, Err, Result, Vec}
use Rattle.std.specs.declared.alloc.Global.{Global}
use Rattle.ledger.specs.Books.{Book, Room, Lawful}
use Rattle.ledger.specs.Opening.{Sharing}
use Rattle.tape.specs.Tapes.{Contents}
use Rattle.rules.specs.Steps.{Desk}
use Rattle.sheet.specs.declared.fault.Fault.{Fault}
use Rattle.sheet.specs.Handing.{Handed}
use Rattle.answers.specs.Answers.{Answer}
use Rattle.whole_runs.specs.Law.{new_desk}
use Rattle.whole_runs.proofs.Runs.{lawful_runs}
use Rattle.practice.specs.Tasks.{steps_of}
use Rattle.practice.specs.Working.{told, Answered, Practised}

pub lawfully : (share : Sharing) (m : Book) (room : Room) (t : Contents) (r : Result (List Handed) Fault) (v : Result (Vec Answer Global) Fault) (e : Desk) → Lawful m → Answered share (new_desk m room t) r v e → Practised share (new_desk m room t) r v e
lawfully share m room t (Ok hs) (Ok v) e law w =
    record { outcomes = w.outcomes; answers = w.answers; each = w.each; law = lawful_runs share m room t (steps_of [] (told hs)) w.outcomes e law w.ran }
lawfully share m room t (Ok hs) (Err f) e law w = w
lawfully share m room t (Err f) (Ok v) e law w = w
lawfully share m room t (Err f) (Err h) e law w = w

-- of what a call made, if it did
pub made_more : {X Y : Type 0} (P Q : X → Type 0) (r : Result X Y) → ((x : X) → P x → Q x) → IfOk r P → IfOk r Q
made_more P Q (Ok x) f p = f x p
made_more P Q (Err y) f p = tt

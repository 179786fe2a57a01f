-- What a line of a sheet is answered.
--   Answer            how many lines it wrote to the tape, or who refused it
--   sheet_refused f   the sheet refused it with the fault f
--   call_refused r    a call of the floor refused it with r
use Rattle.std.specs.Prelude.{ℕ, Result}
use Rattle.rules.specs.declared.event.Refused.{Refused}
use Rattle.rules.specs.declared.event.Refused.TheVariants.{Floor, List, Ledger}
use Rattle.sheet.specs.declared.fault.Fault.{Fault}
use Rattle.answers.specs.declared.answer.NotDone.{NotDone}
use Rattle.answers.specs.declared.answer.NotDone.TheVariants.{Sheet, Floor as by_floor, List as by_list, Ledger as by_ledger}

abbrev pub Answer : Type 0
Answer = Result ℕ NotDone

abbrev pub sheet_refused : Fault → NotDone
sheet_refused f = Sheet f.refusal f.field

abbrev pub call_refused : Refused → NotDone
call_refused (Floor e) = by_floor e
call_refused (List k) = by_list k
call_refused (Ledger e i) = by_ledger e i

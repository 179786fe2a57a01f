-- How many lines a sheet has.
--   line_count t   the number of its lines, or the refusal of a sheet that is too long
use Rattle.std.specs.Prelude.{ℕ, List, length, Ok, Err, Result}
use Rattle.sheet.specs.declared.fault.Fault.{Fault}
use Rattle.sheet.specs.Handing.{Handed, opening}

abbrev pub counted : Result (List Handed) Fault → Result ℕ Fault
counted (Ok hs) = Ok (length hs)
counted (Err e) = Err e

abbrev pub line_count : List ℕ → Result ℕ Fault
line_count t = counted (opening t)

-- What the reading of a line's figures answers.
--   gathered n r   the first n of the figures that r holds with the text that is left, or the fault
use Rattle.std.specs.Prelude.{ℕ, take, Ok, Err, Result}
use Rattle.sheet.specs.declared.fault.Fault.{Fault}
use Rattle.sheet.specs.declared.fields.Figures.{Figures}
use Rattle.sheet.specs.Fields.{Read}

abbrev pub gathered : ℕ → Result Figures Fault → Read
gathered n (Ok f) = Ok (take n f.numbers, f.rest.now)
gathered n (Err e) = Err e

-- Why the sheet refuses a line.
--   fault w k      the refusal w at the line's field k; the code is field 1, and 0 stands for no field
--   empty, unknown the refusals of a whole line
--   miscounted k   field k is missing, or is one too many
--   no_figure k    field k is not 1 to 18 digits
use Rattle.std.specs.Prelude.{ℕ}
use Rattle.market.specs.declared.refusal.Refusal.{Refusal}
use Rattle.market.specs.declared.refusal.Refusal.TheVariants.{EmptyLine, UnknownCode, FieldCount, NotDigits}
use Rattle.sheet.specs.declared.fault.Fault.{Fault}

abbrev pub fault : Refusal → ℕ → Fault
fault w k = record { refusal = w; field = k }

abbrev pub empty : Fault
empty = fault EmptyLine 0

abbrev pub unknown : Fault
unknown = fault UnknownCode 0

abbrev pub miscounted : ℕ → Fault
miscounted k = fault FieldCount k

abbrev pub no_figure : ℕ → Fault
no_figure k = fault NotDigits k

use Rattle.std.proofs.Common.{◌≡◌, ◌++◌, take, string_bytes}
use Rattle.std.specs.List.{flat_map}
use Rattle.row_text.specs.Cells.{after_blank}
use Rattle.row_text.proofs.cells.push_row.Given as goal

abbrev pub invariant-loop-cell : goal.invariant-loop-cell
invariant-loop-cell l = string_bytes l.out ≡ string_bytes l.initial.out ++ flat_map after_blank (take l.cell-index l.cells)

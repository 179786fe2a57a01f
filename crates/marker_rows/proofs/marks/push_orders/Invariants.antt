use Rattle.std.proofs.Common.{◌≡◌, ◌++◌, take, string_bytes}
use Rattle.std.specs.List.{flat_map}
use Rattle.marker_rows.specs.Marks.{order_row}
use Rattle.marker_rows.proofs.marks.push_orders.Given as goal

abbrev pub invariant-loop-name : goal.invariant-loop-name
invariant-loop-name g l = string_bytes l.out ≡ string_bytes l.initial.out ++ flat_map (order_row (g.T.Tape.contents l.tape).lines) (take l.name-index l.names)

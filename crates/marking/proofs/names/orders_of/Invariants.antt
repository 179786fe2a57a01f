use Rattle.std.proofs.Common.{◌≡◌, drop, vec_items}
use Rattle.std.specs.List.{fold}
use Rattle.marking.specs.Orders.{noted_line, orders}
use Rattle.marking.proofs.names.orders_of.Given as goal

abbrev pub invariant-loop-line : goal.invariant-loop-line
invariant-loop-line g l =
    fold noted_line (vec_items l.names) (drop l.line-iterator.place (g.T.Tape.contents l.line-iterator.tape.now).lines) ≡ orders (g.T.Tape.contents l.tape).lines

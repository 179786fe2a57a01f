use Rattle.std.proofs.Common.{List, string_bytes}
use Rattle.tape.specs.declared.line.Line.{Line}
use Rattle.rules.specs.declared.order.Name.{Name}
use Rattle.row_text.proofs.Pushing.{joined_turn}
use Rattle.marker_rows.specs.Marks.{order_row}
use Rattle.marker_rows.proofs.marks.push_orders.Goals as goal

pub loop-name-preserved : goal.loop-name-preserved
loop-name-preserved g c =
    let ls : List Line = (g.T.Tape.contents c.args.tape.now).lines in
    let none : Name = record { unit = 0; serial = 0 } in
    joined_turn (order_row ls) (string_bytes c.args.out.now) (string_bytes c.loop-name.out) (string_bytes c.push_order.new.out) c.args.names.now c.loop-name.name-index none c.loop-name-test.true c.loop-name.invariant c.in_ok-push_order.ensures

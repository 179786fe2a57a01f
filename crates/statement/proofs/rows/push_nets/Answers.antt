use Rattle.std.proofs.Common.{List, string_bytes}
use Rattle.tape.specs.declared.line.Line.{Line}
use Rattle.row_text.proofs.Pushing.{joined_turn}
use Rattle.statement.specs.Pairs.{pair}
use Rattle.statement.specs.Rows.{net_row}
use Rattle.statement.proofs.rows.push_nets.Goals as goal

pub loop-p-preserved : goal.loop-p-preserved
loop-p-preserved g c =
    let ls : List Line = (g.T.Tape.contents c.args.tape.now).lines in
    joined_turn (net_row ls) (string_bytes c.args.out.now) (string_bytes c.loop-p.out) (string_bytes c.push_net.new.out) c.args.pairs.now c.loop-p.p-index (pair 0 0) c.loop-p-test.true c.loop-p.invariant c.in_ok-push_net.ensures

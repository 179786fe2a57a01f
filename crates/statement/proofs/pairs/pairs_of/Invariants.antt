use Rattle.std.proofs.Common.{◌≡◌, drop, vec_items}
use Rattle.std.specs.List.{fold}
use Rattle.statement.specs.Pairs.{noted_line, pairs}
use Rattle.statement.proofs.pairs.pairs_of.Given as goal

abbrev pub invariant-loop-line : goal.invariant-loop-line
invariant-loop-line g l =
    fold noted_line (vec_items l.pairs) (drop l.line-iterator.place (g.T.Tape.contents l.line-iterator.tape.now).lines) ≡ pairs (g.T.Tape.contents l.tape).lines

use Rattle.std.proofs.Common.{◌≡◌, drop}
use Rattle.marking.specs.Deals.{all_paired}
use Rattle.marking.proofs.deals.deals_paired.Given as goal

abbrev pub invariant-loop-line : goal.invariant-loop-line
invariant-loop-line g l =
    all_paired (g.T.Tape.contents l.tape).lines (drop l.line-iterator.place (g.T.Tape.contents l.line-iterator.tape.now).lines)
    ≡ all_paired (g.T.Tape.contents l.tape).lines (g.T.Tape.contents l.tape).lines

use Rattle.std.proofs.Common.{sym}
use Rattle.sheet_text.proofs.Reading.{one_more}
use Rattle.sheet_text.proofs.figures.figure.Goals as goal

pub loop-b-preserved : goal.loop-b-preserved
loop-b-preserved c = rw c.from.ensures (one_more _ _ _ c.loop-b.invariant c.loop-b-test.true (sym c.if-not-is_ascii_digit.ensures.value))

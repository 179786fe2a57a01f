use Rattle.sheet_text.proofs.Reading.{Sofar}
use Rattle.sheet_text.proofs.figures.figure.Given as goal

abbrev pub invariant-loop-b : goal.invariant-loop-b
invariant-loop-b l = Sofar l.text l.b-index l.n

use Rattle.std.proofs.Common.{[]}
use Rattle.sheet.specs.Fields.{read}
use Rattle.sheet.proofs.Gathering.{Sofar}
use Rattle.sheet.proofs.fields.read_figures.Given as goal

abbrev pub invariant-loop-i : goal.invariant-loop-i
invariant-loop-i l = Sofar (read [] l.wanted 2 l.fields) l.wanted l.i l.numbers l.rest

use Rattle.sheet.specs.Handing.{left}
use Rattle.sheet.proofs.Counting.{first}
use Rattle.sheet.proofs.reader.Reader.next_line.Goals as goal

pub returns-clause-answer : goal.returns-clause-answer
unfolding left
returns-clause-answer c = first _ _ _ _ _ c.in_ok-line.ensures c.read_line.ensures.answer

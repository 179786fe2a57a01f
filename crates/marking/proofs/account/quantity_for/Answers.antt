use Rattle.std.proofs.Common.{rules}
use Rattle.ledger.specs.Laws.{at}
use Rattle.marking.proofs.account.quantity_for.Goals as goal

pub returns-then-o-name-2 : goal.returns-then-o-name-2
unfolding at
returns-then-o-name-2 c = search rules

pub returns-else-o-name : goal.returns-else-o-name
unfolding at
returns-else-o-name c = search rules

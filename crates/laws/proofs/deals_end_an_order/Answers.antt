use Rattle.laws.proofs.Accepting.{entries_strict}
use Rattle.laws.proofs.deals_end_an_order.Goals as goal

pub returns : goal.returns
returns c = entries_strict

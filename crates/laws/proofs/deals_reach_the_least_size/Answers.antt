use Rattle.laws.proofs.Sizing.{entries_sized}
use Rattle.laws.proofs.deals_reach_the_least_size.Goals as goal

pub returns : goal.returns
returns c = entries_sized

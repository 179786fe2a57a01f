use Rattle.laws.proofs.Stepping.{orders_whole}
use Rattle.laws.proofs.orders_are_told_whole.Goals as goal

pub returns : goal.returns
returns c = orders_whole

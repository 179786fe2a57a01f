use Rattle.laws.proofs.Singly.{searches_single}
use Rattle.laws.proofs.Searching.{entries_single}
use Rattle.laws.proofs.searches_find_one_order.Goals as goal

pub returns : goal.returns
returns c = record { single = searches_single; kept = entries_single }

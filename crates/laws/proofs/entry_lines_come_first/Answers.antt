use Rattle.laws.proofs.Firstly.{entries_first, orders_first}
use Rattle.laws.proofs.entry_lines_come_first.Goals as goal

pub returns : goal.returns
returns c = record { kept = entries_first; told = orders_first }

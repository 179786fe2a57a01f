use Rattle.laws.proofs.Plainness.{entries_plain, cancels_plain, closes_plain}
use Rattle.laws.proofs.tables_are_plain.Goals as goal

pub returns : goal.returns
returns c = record { entries = entries_plain; cancels = cancels_plain; closes = closes_plain }

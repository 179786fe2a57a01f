use Rattle.laws.proofs.Taking.{part_in_range, lines_taken}
use Rattle.laws.proofs.lines_are_taken.Goals as goal

pub returns : goal.returns
returns c = record { parts = part_in_range; lines = lines_taken }

use Rattle.laws.proofs.Stepping.{moves_granted}
use Rattle.laws.proofs.moves_are_granted.Goals as goal

pub returns : goal.returns
returns c = moves_granted

use Rattle.laws.proofs.Pairing.{deals_paired}
use Rattle.laws.proofs.deals_are_paired.Goals as goal

pub returns : goal.returns
returns c = deals_paired

use Rattle.laws.proofs.Agreeing.{entries_agreed}
use Rattle.laws.proofs.numbers_are_dealt_once.Goals as goal

pub returns : goal.returns
returns c = entries_agreed

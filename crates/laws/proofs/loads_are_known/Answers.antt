use Rattle.laws.proofs.Loading.{load_entered, load_cancelled, load_dealt}
use Rattle.laws.proofs.loads_are_known.Goals as goal

pub returns : goal.returns
returns c = record { entered = load_entered; cancelled = load_cancelled; dealt = load_dealt }

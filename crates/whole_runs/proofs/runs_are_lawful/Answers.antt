use Rattle.std.proofs.Common.{refl}
use Rattle.whole_runs.proofs.Runs.{lawful_runs}
use Rattle.whole_runs.proofs.runs_are_lawful.Goals as goal

pub returns : goal.returns
returns c = record { runs = lawful_runs; refusals = λ share d a e. refl }

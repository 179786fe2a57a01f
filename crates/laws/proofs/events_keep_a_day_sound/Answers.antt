use Rattle.laws.proofs.Stepping.{step_sound, run_sound}
use Rattle.laws.proofs.events_keep_a_day_sound.Goals as goal

pub returns : goal.returns
returns c = record { one = step_sound; many = run_sound }

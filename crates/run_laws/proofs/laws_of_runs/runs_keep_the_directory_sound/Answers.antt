use Rattle.run_laws.proofs.Drains.{runs_stay_sound}
use Rattle.run_laws.proofs.laws_of_runs.runs_keep_the_directory_sound.Goals as goal

pub returns : goal.returns
returns c = runs_stay_sound

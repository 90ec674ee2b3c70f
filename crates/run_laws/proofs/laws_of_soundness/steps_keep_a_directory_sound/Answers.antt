use Rattle.run_laws.proofs.SoundSteps.{steps_keep_sound}
use Rattle.run_laws.proofs.laws_of_soundness.steps_keep_a_directory_sound.Goals as goal

pub returns : goal.returns
returns c = steps_keep_sound

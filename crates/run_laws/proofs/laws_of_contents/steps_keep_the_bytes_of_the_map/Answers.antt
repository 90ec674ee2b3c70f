use Rattle.run_laws.proofs.ContentSteps.{steps_keep_bytes}
use Rattle.run_laws.proofs.laws_of_contents.steps_keep_the_bytes_of_the_map.Goals as goal

pub returns : goal.returns
returns c = steps_keep_bytes

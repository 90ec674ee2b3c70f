use Rattle.run_laws.proofs.Steps.{steps_fall}
use Rattle.run_laws.proofs.laws_of_calls.steps_left_fall.Goals as goal

pub returns : goal.returns
returns c = steps_fall

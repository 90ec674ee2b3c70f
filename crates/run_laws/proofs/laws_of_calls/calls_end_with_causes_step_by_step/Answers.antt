use Rattle.run_laws.proofs.StepOutcomes.{outcomes_in_steps}
use Rattle.run_laws.proofs.laws_of_calls.calls_end_with_causes_step_by_step.Goals as goal

pub returns : goal.returns
returns c = outcomes_in_steps

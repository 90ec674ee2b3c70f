use Rattle.run_laws.proofs.RebuildSteps.{rebuilds_make_steps}
use Rattle.run_laws.proofs.laws_of_calls.rebuilds_make_steps.Goals as goal

pub returns : goal.returns
returns c = rebuilds_make_steps

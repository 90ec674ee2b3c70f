use Rattle.run_laws.proofs.ToldRuns.{calls_are_told as law}
use Rattle.run_laws.proofs.laws_of_runs.calls_are_told_step_by_step.Goals as goal

pub returns : goal.returns
returns c = law

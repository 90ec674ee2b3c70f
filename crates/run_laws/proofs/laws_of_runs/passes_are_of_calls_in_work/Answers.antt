use Rattle.run_laws.proofs.PassesInWork.{passes_are_of_calls}
use Rattle.run_laws.proofs.laws_of_runs.passes_are_of_calls_in_work.Goals as goal

pub returns : goal.returns
returns c = passes_are_of_calls

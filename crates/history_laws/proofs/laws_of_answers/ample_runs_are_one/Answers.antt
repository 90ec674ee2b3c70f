use Rattle.history_laws.proofs.Ample.{ample_runs_are_one}
use Rattle.history_laws.proofs.laws_of_answers.ample_runs_are_one.Goals as goal

pub returns : goal.returns
returns c = ample_runs_are_one

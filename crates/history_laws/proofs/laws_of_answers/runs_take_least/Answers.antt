use Rattle.history_laws.proofs.TakesOfRuns.{runs_take_least}
use Rattle.history_laws.proofs.laws_of_answers.runs_take_least.Goals as goal

pub returns : goal.returns
returns c = runs_take_least

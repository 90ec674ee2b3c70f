use Rattle.history_laws.proofs.Finishing.{runs_finish}
use Rattle.history_laws.proofs.laws_of_history.runs_finish.Goals as goal

pub returns : goal.returns
returns c = runs_finish

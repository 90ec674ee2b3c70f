use Rattle.history_laws.proofs.GivenUpLines.{runs_give_up}
use Rattle.history_laws.proofs.laws_of_history.runs_give_up.Goals as goal

pub returns : goal.returns
returns c = runs_give_up

use Rattle.history_laws.proofs.LossLines.{runs_have_losses_in_time}
use Rattle.history_laws.proofs.laws_of_time.runs_have_losses_in_time.Goals as goal

pub returns : goal.returns
returns c = runs_have_losses_in_time

use Rattle.history_laws.proofs.OwnLines.{runs_name_losses}
use Rattle.history_laws.proofs.laws_of_losses.runs_name_losses.Goals as goal

pub returns : goal.returns
returns c = runs_name_losses

use Rattle.history_laws.proofs.FoundLines.{runs_find_missing}
use Rattle.history_laws.proofs.laws_of_losses.runs_find_missing.Goals as goal

pub returns : goal.returns
returns c = runs_find_missing

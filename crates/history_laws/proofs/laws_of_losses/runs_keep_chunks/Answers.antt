use Rattle.history_laws.proofs.LossesKept.{runs_keep_chunks}
use Rattle.history_laws.proofs.laws_of_losses.runs_keep_chunks.Goals as goal

pub returns : goal.returns
returns c = runs_keep_chunks

use Rattle.thread_laws.proofs.Epochs.{epochs_are_wipes}
use Rattle.thread_laws.proofs.laws_of_places.epochs_are_wipes.Goals as goal

pub returns : goal.returns
returns c = epochs_are_wipes

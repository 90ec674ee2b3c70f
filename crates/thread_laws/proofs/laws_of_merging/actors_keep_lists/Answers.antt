use Rattle.thread_laws.proofs.Own.{keep_lists}
use Rattle.thread_laws.proofs.laws_of_merging.actors_keep_lists.Goals as goal

pub returns : goal.returns
returns c = keep_lists

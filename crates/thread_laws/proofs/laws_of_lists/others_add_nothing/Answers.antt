use Rattle.thread_laws.proofs.Others.{others_add_nothing}
use Rattle.thread_laws.proofs.laws_of_lists.others_add_nothing.Goals as goal

pub returns : goal.returns
returns c = others_add_nothing

use Rattle.thread_laws.proofs.Seen.{histories_have_all}
use Rattle.thread_laws.proofs.laws_of_lists.histories_have_all.Goals as goal

pub returns : goal.returns
returns c = histories_have_all

use Rattle.thread_laws.proofs.PlaceWorked.{stats_have_ended}
use Rattle.thread_laws.proofs.laws_of_lists.stats_have_ended.Goals as goal

pub returns : goal.returns
returns c = stats_have_ended

use Rattle.thread_laws.proofs.SeenOwed.{all_served_stay_owed}
use Rattle.thread_laws.proofs.laws_of_serving.all_served_stay_owed.Goals as goal

pub returns : goal.returns
returns c = all_served_stay_owed

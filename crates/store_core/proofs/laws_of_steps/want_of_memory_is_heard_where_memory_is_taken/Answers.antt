use Rattle.store_core.proofs.Memory.{is_heard}
use Rattle.store_core.proofs.laws_of_steps.want_of_memory_is_heard_where_memory_is_taken.Goals as goal

pub returns : goal.returns
returns c = is_heard

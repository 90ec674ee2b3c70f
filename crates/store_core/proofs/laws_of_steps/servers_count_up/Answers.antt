use Rattle.store_core.proofs.Places.{servers_count_up}
use Rattle.store_core.proofs.laws_of_steps.servers_count_up.Goals as goal

pub returns : goal.returns
returns c = servers_count_up

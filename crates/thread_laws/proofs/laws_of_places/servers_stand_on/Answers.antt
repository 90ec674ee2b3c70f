use Rattle.thread_laws.proofs.ServerAdding.{servers_stand_on}
use Rattle.thread_laws.proofs.laws_of_places.servers_stand_on.Goals as goal

pub returns : goal.returns
returns c = servers_stand_on

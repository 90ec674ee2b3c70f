use Rattle.world_laws.proofs.TraceTurns.{clients_tell, repairers_tell}
use Rattle.world_laws.proofs.laws_of_traces.turns_tell.Goals as goal

pub returns-clause-clients : goal.returns-clause-clients
returns-clause-clients c = clients_tell

pub returns-clause-repairers : goal.returns-clause-repairers
returns-clause-repairers c = repairers_tell

use Rattle.thread_laws.proofs.Numbers.{clients_come_first, repairers_follow}
use Rattle.thread_laws.proofs.laws_of_lists.numbers_are_places.Goals as goal

pub returns-clause-clients : goal.returns-clause-clients
returns-clause-clients c = clients_come_first

pub returns-clause-repairers : goal.returns-clause-repairers
returns-clause-repairers c = repairers_follow

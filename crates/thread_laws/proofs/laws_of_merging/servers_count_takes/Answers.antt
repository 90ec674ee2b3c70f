use Rattle.thread_laws.proofs.TakenSums.{servers_count}
use Rattle.thread_laws.proofs.TakenByCalls.{calls_count}
use Rattle.thread_laws.proofs.laws_of_merging.servers_count_takes.Goals as goal

pub returns-clause-lists : goal.returns-clause-lists
returns-clause-lists c = servers_count

pub returns-clause-calls : goal.returns-clause-calls
returns-clause-calls c = calls_count

use Rattle.thread_laws.proofs.Worked.{stats_are_a_run}
use Rattle.thread_laws.proofs.laws_of_threads.stats_are_a_run.Goals as goal

pub returns : goal.returns
returns c = stats_are_a_run

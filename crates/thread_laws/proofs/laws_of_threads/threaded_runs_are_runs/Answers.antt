use Rattle.thread_laws.proofs.Runs.{threaded_runs_are_runs}
use Rattle.thread_laws.proofs.laws_of_threads.threaded_runs_are_runs.Goals as goal

pub returns : goal.returns
returns c = threaded_runs_are_runs

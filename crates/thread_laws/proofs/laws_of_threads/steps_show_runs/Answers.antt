use Rattle.thread_laws.proofs.Runs.{steps_show_runs}
use Rattle.thread_laws.proofs.laws_of_threads.steps_show_runs.Goals as goal

pub returns : goal.returns
returns c = steps_show_runs

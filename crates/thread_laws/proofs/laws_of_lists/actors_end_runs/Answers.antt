use Rattle.thread_laws.proofs.Ending.{actors_end_runs}
use Rattle.thread_laws.proofs.laws_of_lists.actors_end_runs.Goals as goal

pub returns : goal.returns
returns c = actors_end_runs

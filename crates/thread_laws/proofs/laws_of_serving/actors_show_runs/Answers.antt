use Rattle.thread_laws.proofs.Shown.{actors_show_runs}
use Rattle.thread_laws.proofs.laws_of_serving.actors_show_runs.Goals as goal

pub returns : goal.returns
returns c = actors_show_runs

use Rattle.thread_laws.proofs.Showing.{shows}
use Rattle.thread_laws.proofs.laws_of_merging.threaded_runs_are_shown.Goals as goal

pub returns : goal.returns
returns c = shows

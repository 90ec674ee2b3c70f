use Rattle.thread_laws.proofs.Served.{transcripts_are_runs}
use Rattle.thread_laws.proofs.laws_of_serving.transcripts_are_runs.Goals as goal

pub returns : goal.returns
returns c = transcripts_are_runs

use Rattle.history_laws.proofs.LogRuns.{calls_have_logs}
use Rattle.history_laws.proofs.laws_of_takes.calls_have_logs.Goals as goal

pub returns : goal.returns
returns c = calls_have_logs

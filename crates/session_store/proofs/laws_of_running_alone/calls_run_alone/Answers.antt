use Rattle.session_store.proofs.AloneRunning.{calls_run_alone}
use Rattle.session_store.proofs.laws_of_running_alone.calls_run_alone.Goals as goal

pub returns : goal.returns
returns c = calls_run_alone

use Rattle.history_laws.proofs.OrderRuns.{runs_keep_call_order}
use Rattle.history_laws.proofs.laws_of_history.runs_keep_call_order.Goals as goal

pub returns : goal.returns
returns c = runs_keep_call_order

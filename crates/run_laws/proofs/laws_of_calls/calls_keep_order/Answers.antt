use Rattle.run_laws.proofs.Orders.{calls_keep_order}
use Rattle.run_laws.proofs.laws_of_calls.calls_keep_order.Goals as goal

pub returns : goal.returns
returns c = λ g max tries job. calls_keep_order g max tries job

use Rattle.store_core.proofs.Held.{holds_in_order}
use Rattle.store_core.proofs.laws_of_steps.servers_hold_versions_in_order.Goals as goal

pub returns : goal.returns
returns c = holds_in_order

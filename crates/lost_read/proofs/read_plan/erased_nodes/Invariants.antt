use Rattle.std.proofs.Common.{◌≡◌, ℕ, ◌<◌, length, get_or, false}
use Rattle.lost_layers.specs.LostLayers.{is_unknown}
use Rattle.lost_read.proofs.read_plan.erased_nodes.Given as goal

abbrev pub invariant-loop-node : goal.invariant-loop-node
invariant-loop-node l = (length l.erased.items ≡ l.node) × ((i : ℕ) → i < l.node → get_or l.erased.items i false ≡ is_unknown l.placed.g l.placed.run l.layer i)

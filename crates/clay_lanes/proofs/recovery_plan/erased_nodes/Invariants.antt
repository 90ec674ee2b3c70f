use Rattle.std.proofs.Common.{◌≡◌, ℕ, ◌<◌, length, get_or, false}
use Rattle.lane_repair.specs.Views.{pieces_of}
use Rattle.clay_lanes.specs.Present.{is_gone}
use Rattle.clay_lanes.proofs.recovery_plan.erased_nodes.Given as goal

abbrev pub invariant-loop-node : goal.invariant-loop-node
invariant-loop-node l = (length l.erased.items ≡ l.node) × ((i : ℕ) → i < l.node → get_or l.erased.items i false ≡ is_gone l.g (pieces_of l.have) i)

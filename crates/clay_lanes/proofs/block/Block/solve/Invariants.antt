use Rattle.std.proofs.Common.{ℕ, ◌<◌, get_or}
use Rattle.lane_repair.specs.Views.{pieces_of}
use Rattle.clay_lanes.specs.Present.{FitsChunks}
use Rattle.clay_lanes.specs.Recovered.{HoldsLayerRows}
use Rattle.clay_lanes.proofs.block.Block.solve.Given as goal

abbrev pub invariant-loop-z : goal.invariant-loop-z
invariant-loop-z l =
    (k : ℕ) → k < l.z-index
    → HoldsLayerRows l.self.g (λ word. FitsChunks l.self.g (pieces_of l.self.have) word) l.self.at (l.self.len) l.self.plan.now.points.items (get_or l.self.plan.now.layers.items k 0) l.solved

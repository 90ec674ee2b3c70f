use Rattle.lane_repair.specs.Views.{pieces_of}
use Rattle.lane_repair.specs.Pieces.{HoldsNodes}
use Rattle.clay_lanes.specs.Present.{FitsChunks}
use Rattle.clay_lanes.proofs.block.Block.write_nodes.Given as goal

abbrev pub invariant-loop-x : goal.invariant-loop-x
invariant-loop-x l = HoldsNodes l.self.g (λ word. FitsChunks l.self.g (pieces_of l.self.have) word) l.self.at l.self.len l.self.plan.now.erased.items l.first l.z l.x l.values

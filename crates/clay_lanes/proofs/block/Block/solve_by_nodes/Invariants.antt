use Rattle.lane_repair.specs.Views.{pieces_of}
use Rattle.lane_repair.proofs.RowLemmas.{HoldsSums}
use Rattle.clay_lanes.specs.Present.{FitsChunks}
use Rattle.clay_lanes.proofs.block.Block.solve_by_nodes.Given as goal

abbrev pub invariant-loop-node : goal.invariant-loop-node
invariant-loop-node l =
    HoldsSums l.self.g (λ word. FitsChunks l.self.g (pieces_of l.self.have) word) l.self.at (l.self.len) l.self.plan.now.erased.items l.self.plan.now.points.items l.self.plan.now.generator.each l.z l.node l.rows

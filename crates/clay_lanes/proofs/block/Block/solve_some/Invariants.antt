use Rattle.lane_repair.specs.Views.{pieces_of}
use Rattle.clay_lanes.specs.Present.{FitsChunks}
use Rattle.clay_lanes.specs.Recovered.{AreRowsOfLayers}
use Rattle.clay_lanes.proofs.block.Block.solve_some.Given as goal

abbrev pub invariant-loop-i : goal.invariant-loop-i
invariant-loop-i l =
    AreRowsOfLayers l.self.g (λ word. FitsChunks l.self.g (pieces_of l.self.have) word) l.self.at l.self.len l.self.plan.now.points.items l.layers l.i l.rows

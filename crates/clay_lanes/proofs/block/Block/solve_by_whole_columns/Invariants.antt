use Rattle.std.proofs.Common.{◌*◌}
use Rattle.clay_grid.specs.Shape.{row_count}
use Rattle.lane_repair.specs.Views.{pieces_of}
use Rattle.lane_repair.proofs.RowLemmas.{HoldsSums}
use Rattle.clay_lanes.specs.Present.{FitsChunks}
use Rattle.clay_lanes.proofs.block.Block.solve_by_whole_columns.Given as goal

abbrev pub invariant-loop-y : goal.invariant-loop-y
invariant-loop-y l =
    HoldsSums l.self.g (λ word. FitsChunks l.self.g (pieces_of l.self.have) word) l.self.at l.self.len l.self.plan.now.erased.items l.self.plan.now.points.items l.self.plan.now.generator.each l.z
    (l.y * row_count l.self.g) l.rows

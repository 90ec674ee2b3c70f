use Rattle.std.proofs.Common.{◌*◌}
use Rattle.lane_repair.specs.Views.{pieces_of}
use Rattle.lane_repair.proofs.ColumnRows.{HoldsForm}
use Rattle.clay_lanes.specs.Present.{FitsChunks}
use Rattle.clay_lanes.proofs.block.Block.solve_by_columns.Given as goal

abbrev pub invariant-loop-y : goal.invariant-loop-y
invariant-loop-y l = HoldsForm l.self.g (λ word. FitsChunks l.self.g (pieces_of l.self.have) word) l.self.at l.self.len l.self.plan.now.erased.items l.self.plan.now.generator.each l.z (l.y * 4) l.rows

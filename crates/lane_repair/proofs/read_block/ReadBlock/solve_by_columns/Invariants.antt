use Rattle.std.proofs.Common.{◌*◌}
use Rattle.lane_repair.proofs.ColumnRows.{HoldsForm}
use Rattle.lane_repair.specs.Views.{FitsPieces, pieces_of}
use Rattle.lane_repair.proofs.read_block.ReadBlock.solve_by_columns.Given as goal

abbrev pub invariant-loop-y : goal.invariant-loop-y
invariant-loop-y l = HoldsForm l.self.g (λ word. FitsPieces l.self.g l.self.plan.now.lost (pieces_of l.self.parts) word) l.self.at l.self.len l.self.plan.now.erased.items l.self.plan.now.generator.each l.self.z (l.y * 4) l.rows

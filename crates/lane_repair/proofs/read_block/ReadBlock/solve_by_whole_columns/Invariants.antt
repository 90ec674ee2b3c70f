use Rattle.std.proofs.Common.{◌*◌}
use Rattle.clay_grid.specs.Shape.{row_count}
use Rattle.lane_repair.specs.Repaired.{column_nodes}
use Rattle.lane_repair.proofs.RowLemmas.{HoldsSums}
use Rattle.lane_repair.specs.Views.{FitsPieces, pieces_of}
use Rattle.lane_repair.proofs.read_block.ReadBlock.solve_by_whole_columns.Given as goal

abbrev pub invariant-loop-y : goal.invariant-loop-y
invariant-loop-y l =
    HoldsSums l.self.g (λ word. FitsPieces l.self.g l.self.plan.now.lost (pieces_of l.self.parts) word) l.self.at l.self.len l.self.plan.now.erased.items (column_nodes l.self.g l.self.plan.now.column) l.self.plan.now.generator.each l.self.z
    (l.y * row_count l.self.g) l.rows

use Rattle.std.proofs.Common.{◌≡◌, ◌*◌}
use Rattle.std.specs.List.{range_with_len}
use Rattle.clay_grid.specs.Shape.{row_count}
use Rattle.clay_repair.proofs.plain_repair_plan.column_points.Given as goal

abbrev pub invariant-loop-x : goal.invariant-loop-x
invariant-loop-x l = l.points.items ≡ range_with_len (l.column * row_count l.g) l.x

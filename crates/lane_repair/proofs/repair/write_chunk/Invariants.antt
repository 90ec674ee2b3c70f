use Rattle.std.proofs.Common.{ℕ, ◌+◌, ◌*◌, ◌<◌, get_or}
use Rattle.clay_grid.specs.Shape.{row_count}
use Rattle.code_laws.specs.Rebuilt.{with_digit}
use Rattle.lane_repair.specs.Pieces.{HoldsByte}
use Rattle.lane_repair.specs.Views.{FitsPieces, pieces_of}
use Rattle.lane_repair.proofs.repair.write_chunk.Given as goal

abbrev pub invariant-loop-z : goal.invariant-loop-z
invariant-loop-z l =
    (k x b : ℕ) → k < l.z-index → x < row_count l.fn.g → b < l.fn.g.width
    → HoldsByte (λ word. FitsPieces l.fn.g l.plan.lost (pieces_of l.fn.parts) word) l.plan.lost l.chunk (with_digit l.fn.g l.plan.lost (get_or l.plan.layers.items k 0) x * l.fn.g.width + b)

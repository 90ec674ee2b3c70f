use Rattle.std.proofs.Common.{ℕ, ◌+◌, ◌-◌, ◌*◌, ◌<◌, ◌≤◌}
use Rattle.clay_grid.specs.Shape.{row_count}
use Rattle.code_laws.specs.Rebuilt.{with_digit}
use Rattle.lane_repair.specs.Pieces.{HoldsByte}
use Rattle.lane_repair.specs.Views.{FitsPieces, pieces_of}
use Rattle.lane_repair.proofs.read_block.ReadBlock.write_parts.Given as goal

abbrev pub invariant-loop-from : goal.invariant-loop-from
invariant-loop-from l = record {
  within : l.from ≤ l.self.len;
  written : (x b : ℕ) → x < row_count l.self.g → b < l.from
      → HoldsByte (λ word. FitsPieces l.self.g l.self.plan.now.lost (pieces_of l.self.parts) word) l.self.plan.now.lost l.chunk (with_digit l.self.g l.self.plan.now.lost l.self.z x * l.self.g.width + (l.self.at + b));
  kept : (p : ℕ) → HoldsByte (λ word. FitsPieces l.self.g l.self.plan.now.lost (pieces_of l.self.parts) word) l.self.plan.now.lost l.fn.chunk p
      → HoldsByte (λ word. FitsPieces l.self.g l.self.plan.now.lost (pieces_of l.self.parts) word) l.self.plan.now.lost l.chunk p;
}

abbrev pub decreases-loop-from : goal.decreases-loop-from
decreases-loop-from l = l.self.len - l.from

use Rattle.std.proofs.Common.{ℕ, ◌+◌, ◌*◌, ◌<◌}
use Rattle.code_laws.specs.Rebuilt.{with_digit}
use Rattle.lane_repair.specs.Pieces.{HoldsByte}
use Rattle.lane_repair.specs.Views.{FitsPieces, pieces_of}
use Rattle.lane_repair.proofs.read_block.ReadBlock.write.Given as goal

abbrev pub invariant-loop-x : goal.invariant-loop-x
invariant-loop-x l = record {
  written : (x b : ℕ) → x < l.x → b < l.self.len
      → HoldsByte (λ word. FitsPieces l.self.g l.self.plan.now.lost (pieces_of l.self.parts) word) l.self.plan.now.lost l.chunk (with_digit l.self.g l.self.plan.now.lost l.self.z x * l.self.g.width + (l.self.at + b));
  kept : (p : ℕ) → HoldsByte (λ word. FitsPieces l.self.g l.self.plan.now.lost (pieces_of l.self.parts) word) l.self.plan.now.lost l.fn.chunk p
      → HoldsByte (λ word. FitsPieces l.self.g l.self.plan.now.lost (pieces_of l.self.parts) word) l.self.plan.now.lost l.chunk p;
}

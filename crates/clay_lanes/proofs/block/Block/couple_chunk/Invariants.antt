use Rattle.std.proofs.Common.{ℕ, ◌+◌, ◌*◌, ◌<◌}
use Rattle.lane_repair.specs.Views.{pieces_of}
use Rattle.lane_repair.specs.Pieces.{HoldsByte}
use Rattle.clay_lanes.specs.Present.{FitsChunks}
use Rattle.clay_lanes.proofs.block.Block.couple_chunk.Given as goal

abbrev pub invariant-loop-z : goal.invariant-loop-z
invariant-loop-z l = record {
  written : (z b : ℕ) → z < l.z → b < l.self.len → HoldsByte (λ word. FitsChunks l.self.g (pieces_of l.self.have) word) l.c l.chunk (z * l.self.g.width + (l.self.at + b));
  kept : (p : ℕ) → HoldsByte (λ word. FitsChunks l.self.g (pieces_of l.self.have) word) l.c l.fn.chunk p → HoldsByte (λ word. FitsChunks l.self.g (pieces_of l.self.have) word) l.c l.chunk p;
}

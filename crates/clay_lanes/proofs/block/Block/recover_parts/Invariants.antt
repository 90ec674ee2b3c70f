use Rattle.std.proofs.Common.{◌≡◌, ℕ, ◌+◌, ◌-◌, ◌*◌, ◌<◌, ◌≤◌, [], length, get_or}
use Rattle.clay_grid.specs.Shape.{layer_count, chunk_length}
use Rattle.clay_model.specs.Chunks.{contents}
use Rattle.lane_repair.specs.Views.{pieces_of}
use Rattle.lane_repair.specs.Pieces.{HoldsByte}
use Rattle.clay_lanes.specs.Present.{FitsChunks}
use Rattle.clay_lanes.proofs.block.Block.recover_parts.Given as goal

abbrev pub invariant-loop-from : goal.invariant-loop-from
invariant-loop-from l = record {
  within : l.from ≤ l.self.len;
  lengths : (k : ℕ) → k < length l.fn.chunks → length (get_or (contents l.chunks) k []) ≡ chunk_length l.self.g;
  written : (k z b : ℕ) → k < length l.lost → z < layer_count l.self.g → b < l.from
      → HoldsByte (λ word. FitsChunks l.self.g (pieces_of l.self.have) word) (get_or l.lost k 0) (get_or (contents l.chunks) k []) (z * l.self.g.width + (l.self.at + b));
}

abbrev pub decreases-loop-from : goal.decreases-loop-from
decreases-loop-from l = l.self.len - l.from

use Rattle.std.proofs.Common.{◌≡◌, ℕ, ◌+◌, ◌*◌, ◌<◌, [], length, map, get_or}
use Rattle.clay_grid.specs.Shape.{layer_count, chunk_length}
use Rattle.lane_repair.specs.Views.{pieces_of}
use Rattle.lane_repair.specs.Pieces.{HoldsByte}
use Rattle.clay_lanes.specs.Present.{FitsChunks}
use Rattle.lane_slices.proofs.SliceLemmas.{bytes_of}
use Rattle.lane_slices.proofs.slices.couple_slices.Given as goal

abbrev pub invariant-loop-i : goal.invariant-loop-i
invariant-loop-i l = record {
  lengths : (k : ℕ) → k < length l.fn.slices → length (get_or (map bytes_of l.slices) k []) ≡ chunk_length l.block.g;
  written : (k z b : ℕ) → k < l.i → z < layer_count l.block.g → b < l.block.len
      → HoldsByte (λ word. FitsChunks l.block.g (pieces_of l.block.have) word) (get_or l.lost k 0) (get_or (map bytes_of l.slices) k []) (z * l.block.g.width + (l.block.at + b));
  kept : (k p : ℕ) → HoldsByte (λ word. FitsChunks l.block.g (pieces_of l.block.have) word) (get_or l.lost k 0) (get_or (map bytes_of l.fn.slices) k []) p
      → HoldsByte (λ word. FitsChunks l.block.g (pieces_of l.block.have) word) (get_or l.lost k 0) (get_or (map bytes_of l.slices) k []) p;
}

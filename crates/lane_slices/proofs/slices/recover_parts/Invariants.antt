use Rattle.std.proofs.Common.{◌≡◌, ℕ, ◌+◌, ◌-◌, ◌*◌, ◌<◌, ◌≤◌, [], length, map, get_or}
use Rattle.clay_grid.specs.Shape.{layer_count, chunk_length}
use Rattle.lane_repair.specs.Views.{pieces_of}
use Rattle.lane_repair.specs.Pieces.{HoldsByte}
use Rattle.clay_lanes.specs.Present.{FitsChunks}
use Rattle.lane_slices.proofs.SliceLemmas.{bytes_of}
use Rattle.lane_slices.proofs.slices.recover_parts.Given as goal

abbrev pub invariant-loop-from : goal.invariant-loop-from
invariant-loop-from l = record {
  within : l.from ≤ l.whole.len;
  lengths : (k : ℕ) → k < length l.fn.slices → length (get_or (map bytes_of l.slices) k []) ≡ chunk_length l.whole.g;
  written : (k z b : ℕ) → k < length l.lost → z < layer_count l.whole.g → b < l.from
      → HoldsByte (λ word. FitsChunks l.whole.g (pieces_of l.whole.have) word) (get_or l.lost k 0) (get_or (map bytes_of l.slices) k []) (z * l.whole.g.width + (l.whole.at + b));
}

abbrev pub decreases-loop-from : goal.decreases-loop-from
decreases-loop-from l = l.whole.len - l.from

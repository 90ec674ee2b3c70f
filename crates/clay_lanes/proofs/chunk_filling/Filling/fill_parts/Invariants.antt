use Rattle.std.proofs.Common.{◌≡◌, ℕ, ◌+◌, ◌-◌, ◌*◌, ◌<◌, ◌≤◌, true, get_or, is_none, None}
use Rattle.clay_grid.specs.Shape.{chunk_count, layer_count}
use Rattle.clay_lanes.specs.Present.{FitsChunks}
use Rattle.clay_lanes.specs.Places.{HoldsPlace}
use Rattle.clay_lanes.specs.Fillings.{pieces_in, KeepsOthers}
use Rattle.clay_lanes.proofs.chunk_filling.Filling.fill_parts.Given as goal

abbrev pub invariant-loop-from : goal.invariant-loop-from
invariant-loop-from l = record {
  within : l.from ≤ l.self.len;
  written : (i : ℕ) → i < chunk_count l.self.g → is_none (get_or (pieces_in l.self l.fn.chunks) i None) ≡ true → (z b : ℕ) → z < layer_count l.self.g → b < l.from
      → HoldsPlace l.self.g (λ word. FitsChunks l.self.g (pieces_in l.self l.fn.chunks) word) i l.chunks (z * l.self.g.width + (l.self.at + b));
  kept : KeepsOthers l.self (pieces_in l.self l.fn.chunks) l.fn.chunks l.chunks;
}

abbrev pub decreases-loop-from : goal.decreases-loop-from
decreases-loop-from l = l.self.len - l.from

use Rattle.std.proofs.Common.{◌≡◌, ℕ, ◌<◌, true, get_or, is_none, None}
use Rattle.clay_lanes.specs.Fillings.{pieces_in, FillsPlace, KeepsOthers}
use Rattle.clay_lanes.proofs.chunk_filling.Filling.fill_chunks.Given as goal

abbrev pub invariant-loop-c : goal.invariant-loop-c
invariant-loop-c l = record {
  written : (i : ℕ) → i < l.c → is_none (get_or (pieces_in l.self l.fn.chunks) i None) ≡ true → FillsPlace l.self (pieces_in l.self l.fn.chunks) i l.chunks;
  kept : KeepsOthers l.self (pieces_in l.self l.fn.chunks) l.fn.chunks l.chunks;
}

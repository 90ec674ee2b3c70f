use Rattle.std.proofs.Common.{◌≡◌, ℕ, ◌<◌, [], length, get_or}
use Rattle.clay_model.specs.Chunks.{contents}
use Rattle.clay_lanes.proofs.block_chunks.zero_chunks.Given as goal

abbrev pub invariant-loop : goal.invariant-loop
invariant-loop l = record {
  count : length l.chunks.items ≡ l.counter;
  lengths : (i : ℕ) → i < l.counter → length (get_or (contents l.chunks.items) i []) ≡ l.len;
}

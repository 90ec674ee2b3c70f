use Rattle.std.proofs.Common.{◌≡◌, ℕ, ◌+◌, ◌*◌, ◌<◌, [], length, get_or, slice_range}
use Rattle.clay_model.specs.Chunks.{contents}
use Rattle.clay_encode.proofs.plain_chunks.data_chunks.Given as goal

abbrev pub invariant-loop-c : goal.invariant-loop-c
invariant-loop-c l = record {
  count : length (contents l.chunks.items) ≡ l.c;
  pieces : (i : ℕ) → i < l.c → get_or (contents l.chunks.items) i [] ≡ slice_range l.stripe (i * l.len) ((i + 1) * l.len);
}

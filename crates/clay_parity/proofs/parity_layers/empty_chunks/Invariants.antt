use Rattle.std.proofs.Common.{◌≡◌, ℕ, [], length, get_or}
use Rattle.clay_model.specs.Chunks.{contents}
use Rattle.clay_parity.proofs.parity_layers.empty_chunks.Given as goal

abbrev pub invariant-loop : goal.invariant-loop
invariant-loop l = record {
  count : length l.chunks.items ≡ l.counter;
  empty : (x : ℕ) → get_or (contents l.chunks.items) x [] ≡ [];
}

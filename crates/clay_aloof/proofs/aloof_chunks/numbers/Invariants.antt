use Rattle.std.proofs.Common.{◌≡◌, ℕ, ◌<◌, length, get_or}
use Rattle.clay_aloof.proofs.aloof_chunks.numbers.Given as goal

abbrev pub invariant-loop-number : goal.invariant-loop-number
invariant-loop-number l = (length l.numbers.items ≡ l.number) × ((i : ℕ) → i < l.number → get_or l.numbers.items i 0 ≡ i)

use Rattle.std.proofs.Common.{◌≡◌, ℕ, ◌+◌, ◌<◌, length, get_or}
use Rattle.generator_matrix.proofs.generator.nodes.Given as goal

abbrev pub invariant-loop-e : goal.invariant-loop-e
invariant-loop-e l = (length l.nodes.items ≡ l.e) × ((i : ℕ) → i < l.e → get_or l.nodes.items i 0 ≡ l.first + i)

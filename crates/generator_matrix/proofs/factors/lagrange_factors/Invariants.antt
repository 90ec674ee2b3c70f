use Rattle.std.proofs.Common.{◌≡◌, ℕ, ◌*◌, ◌<◌, ◌/◌, ◌%◌, length, get_or}
use Rattle.generator_matrix.specs.Distances.{lagrange_factor}
use Rattle.generator_matrix.proofs.factors.lagrange_factors.Given as goal

abbrev pub invariant-loop-b : goal.invariant-loop-b
invariant-loop-b l = record {
  long : length l.factors.items ≡ l.b * 16;
  done : (p : ℕ) → p < l.b * 16 → get_or l.factors.items p 0 ≡ lagrange_factor l.unknown (p / length l.nodes) (get_or l.nodes (p % length l.nodes) 0);
}

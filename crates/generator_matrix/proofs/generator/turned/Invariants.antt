use Rattle.std.proofs.Common.{◌≡◌, ℕ, ◌+◌, ◌*◌, ◌<◌, ◌/◌, ◌%◌, length, get_or}
use Rattle.generator_matrix.proofs.generator.turned.Given as goal

abbrev pub invariant-loop-p : goal.invariant-loop-p
invariant-loop-p l = record {
  long : length l.factors.items ≡ l.p;
  done : (i : ℕ) → i < l.p → get_or l.factors.items i 0 ≡ get_or l.values (i % l.m * l.width + i / l.m) 0;
}

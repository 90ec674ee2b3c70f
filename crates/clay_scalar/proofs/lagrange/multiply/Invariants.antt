use Rattle.std.proofs.Common.{◌≡◌, ℕ, ◌<◌, ◌≤◌, ◌∷◌, get_or, bit_xor}
use Rattle.clay_field.specs.Field.{product}
use Rattle.clay_scalar.proofs.lagrange.multiply.Given as goal

abbrev pub invariant-loop-coefficient : goal.invariant-loop-coefficient
invariant-loop-coefficient l = record {
  carried : l.below ≡ get_or (0 ∷ l.initial.polynomial) l.coefficient-index 0;
  done : (j : ℕ) → j < l.coefficient-index → get_or l.polynomial j 0 ≡ product l.scale (bit_xor (get_or (0 ∷ l.initial.polynomial) j 0) (product l.root (get_or l.initial.polynomial j 0)));
  unchanged : (j : ℕ) → l.coefficient-index ≤ j → get_or l.polynomial j 0 ≡ get_or l.initial.polynomial j 0;
}

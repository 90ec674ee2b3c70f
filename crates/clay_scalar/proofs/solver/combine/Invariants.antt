use Rattle.std.proofs.Common.{◌≡◌, ℕ, ◌+◌, ◌*◌, ◌<◌, length, get_or}
use Rattle.clay_field.specs.Field.{product}
use Rattle.clay_model.specs.Sums.{sum_below}
use Rattle.clay_scalar.proofs.solver.combine.Given as goal

abbrev pub invariant-loop-j : goal.invariant-loop-j
invariant-loop-j l =
    (b : ℕ) → b < length l.out → get_or l.out b 0 ≡ sum_below l.j (λ i. product (get_or l.factors i 0) (get_or l.parts (i * l.w + b) 0))

use Rattle.std.proofs.Common.{◌≡◌, ℕ, ◌<◌, get_or}
use Rattle.clay_field.specs.Field.{product}
use Rattle.clay_kernels.proofs.slice_coupling.double.Given as goal

abbrev pub invariant-loop-i : goal.invariant-loop-i
invariant-loop-i l = (k : ℕ) → k < l.i → get_or l.out k 0 ≡ product 2 (get_or l.src k 0)

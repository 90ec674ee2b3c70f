use Rattle.std.proofs.Common.{◌≡◌, ℕ, ◌<◌, get_or, bit_xor}
use Rattle.clay_field.specs.Field.{product}
use Rattle.clay_kernels.proofs.slice_coupling.uncouple_from.Given as goal

abbrev pub invariant-loop-i : goal.invariant-loop-i
invariant-loop-i l = (k : ℕ) → k < l.i → get_or l.out k 0 ≡ bit_xor (product 5 (get_or l.own k 0)) (product 2 (get_or l.partner_u k 0))

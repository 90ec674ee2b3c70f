use Rattle.std.proofs.Common.{◌≡◌, ℕ, ◌<◌, get_or, bit_xor}
use Rattle.clay_field.specs.Field.{product, quotient}
use Rattle.clay_model.proofs.coupling.couple.Given as goal

abbrev pub invariant-loop-i : goal.invariant-loop-i
invariant-loop-i l = (k : ℕ) → k < l.i → get_or l.out k 0 ≡ quotient (bit_xor (get_or l.own_u k 0) (product 2 (get_or l.partner_u k 0))) 5

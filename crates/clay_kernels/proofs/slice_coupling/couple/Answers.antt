use Rattle.std.proofs.Common.{◌≡◌, ℕ, slice_index, refl, sym, ap, ◌∙◌, arith, bit_xor}
use Rattle.clay_field.specs.Field.{product, quotient, inverse_of, power_of, remainder, sum_of_copies}
use Rattle.clay_field.proofs.FieldLaws.{product_comm}
use Rattle.clay_kernels.proofs.slice_coupling.couple.Goals as goal

inverse_of_five : inverse_of 5 ≡ 0xA7
unfolding inverse_of power_of product remainder sum_of_copies
inverse_of_five = refl

fifth : (x : ℕ) → product 0xA7 x ≡ quotient x 5
fifth x = ap (λ a. product a x) (sym inverse_of_five) ∙ product_comm (inverse_of 5) x

pub returns : goal.returns
returns c = λ k h.
    c.scale.ensures k h
    ∙ (λ i. product (c.requires.fifths i) (c.uncouple.ensures k (omega arith) i))
    ∙ fifth (bit_xor (slice_index c.args.own_u.now k) (product 2 (slice_index c.args.partner_u.now k)))

use Rattle.std.proofs.Common.{◌≡◌, ℕ, slice_index, refl, sym, ap, ◌∙◌, arith, bit_xor}
use Rattle.clay_field.specs.Field.{product, quotient, inverse_of, power_of, remainder, sum_of_copies}
use Rattle.clay_field.proofs.FieldLaws.{product_comm}
use Rattle.clay_kernels.proofs.slice_coupling.cross.Goals as goal

inverse_of_two : inverse_of 2 ≡ 0x8E
unfolding inverse_of power_of product remainder sum_of_copies
inverse_of_two = refl

half : (x : ℕ) → product 0x8E x ≡ quotient x 2
half x = ap (λ a. product a x) (sym inverse_of_two) ∙ product_comm (inverse_of 2) x

pub returns : goal.returns
returns c = λ k h.
    c.scale.ensures k h
    ∙ (λ i. product (c.requires.halves i) (c.add.ensures k (omega arith) i))
    ∙ half (bit_xor (slice_index c.args.own_u.now k) (slice_index c.args.own_c.now k))

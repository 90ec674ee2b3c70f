use Rattle.std.proofs.Common.{◌≡◌, ℕ, ◌^◌, ◌<◌, refl, sym, ap, ◌∙◌, bit_xor}
use lib.Bits.{xor_assoc}
use Rattle.clay_field.specs.Field.{product, remainder, sum_of_copies}
use Rattle.clay_field.proofs.FieldLaws.{product_assoc, product_add_left, product_add_right, one_product}
use Rattle.clay_kernels.proofs.slice_coupling.from_partner.Goals as goal

two_twos : product 2 2 ≡ 4
unfolding product remainder sum_of_copies
two_twos = refl

five_times : (a : ℕ) → a < 2 ^ 8 → bit_xor a (product 2 (product 2 a)) ≡ product 5 a
five_times a h =
    let four : product 2 (product 2 a) ≡ product 4 a = sym (product_assoc 2 2 a) ∙ ap (λ t. product t a) two_twos in
    (λ i. bit_xor (sym (one_product a h) i) (four i)) ∙ sym (product_add_left 1 4 a)

from_coupled : (a v : ℕ) → a < 2 ^ 8 → bit_xor a (product 2 (bit_xor (product 2 a) v)) ≡ bit_xor (product 5 a) (product 2 v)
from_coupled a v h =
    ap (bit_xor a) (product_add_right 2 (product 2 a) v)
    ∙ sym (xor_assoc a (product 2 (product 2 a)) (product 2 v))
    ∙ ap (λ t. bit_xor t (product 2 v)) (five_times a h)

pub returns : goal.returns
returns c =
    ap (bit_xor c.args.own) (c.twice-2.ensures ∙ ap (λ v. product 2 (bit_xor v c.args.partner_u)) c.twice.ensures)
    ∙ from_coupled c.args.own c.args.partner_u c.ranges.own.fits

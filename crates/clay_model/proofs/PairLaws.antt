-- The values of a pair, coupled and uncoupled.
use Rattle.std.proofs.Common.{◌≡◌, ℕ, ◌/◌, ◌^◌, ◌<◌, true, not, ◌||◌, eqb, refl, sym, ap, ◌∙◌, inl, inr, bit_xor, bit_and}
use Rattle.std.proofs.lemmas.Bool.{eqb-true, eq-eqb, or_cases, false≢true}
use Rattle.std.proofs.lemmas.Nat.{xor_comm}
use lib.Bits.{xor_assoc, xor_self, xor_zero_r}
use Rattle.clay_field.specs.Field.{product, power_of, inverse_of, quotient, remainder, sum_of_copies}
use Rattle.clay_field.proofs.Additive.{xor_swap}
use Rattle.clay_field.proofs.FieldLaws.{all_below, all_below_at, product_comm, product_assoc, one_product, product_add_left, product_add_right}
use Rattle.clay_model.specs.Pairs.{AreUncoupled, AreCoupled}

-- ---- halves and fifths

inverse_of_five : inverse_of 5 ≡ 0xA7
unfolding inverse_of power_of product remainder sum_of_copies
inverse_of_five = refl

inverse_of_two : inverse_of 2 ≡ 0x8E
unfolding inverse_of power_of product remainder sum_of_copies
inverse_of_two = refl

fifth : (x : ℕ) → quotient x 5 ≡ product 0xA7 x
fifth x = product_comm x (inverse_of 5) ∙ ap (λ a. product a x) inverse_of_five

half : (x : ℕ) → quotient x 2 ≡ product 0x8E x
half x = product_comm x (inverse_of 2) ∙ ap (λ a. product a x) inverse_of_two

quotient-product_five : (x : ℕ) → x < 2 ^ 8 → quotient (product 5 x) 5 ≡ x
unfolding product remainder sum_of_copies
quotient-product_five x h = fifth (product 5 x) ∙ sym (product_assoc 0xA7 5 x) ∙ one_product x h

quotient-product_two : (x : ℕ) → x < 2 ^ 8 → quotient (product 2 x) 2 ≡ x
unfolding product remainder sum_of_copies
quotient-product_two x h = half (product 2 x) ∙ sym (product_assoc 0x8E 2 x) ∙ one_product x h

-- ---- what the code computes

pub fifth_lem : (x : ℕ) → product x 0xA7 ≡ quotient x 5
fifth_lem x = sym (ap (product x) inverse_of_five)

-- the half of an even byte, and of an odd one
halves_even : all_below 256 (λ a. not (eqb (bit_and a 1) 0) || eqb (a / 2) (product a 0x8E)) ≡ true
unfolding product remainder sum_of_copies
halves_even = refl

halves_odd : all_below 256 (λ a. eqb (bit_and a 1) 0 || eqb (bit_xor (a / 2) 0x8E) (product a 0x8E)) ≡ true
unfolding product remainder sum_of_copies
halves_odd = refl

pub half_even : (a : ℕ) → a < 256 → bit_and a 1 ≡ 0 → a / 2 ≡ quotient a 2
half_even a h even =
    elim (or_cases (not (eqb (bit_and a 1) 0)) _ (all_below_at 256 (λ a. not (eqb (bit_and a 1) 0) || eqb (a / 2) (product a 0x8E)) halves_even a h)) [
      | inl odd ↦ absurd (false≢true (sym (ap not (eq-eqb (bit_and a 1) 0 even)) ∙ odd))
      | inr same ↦ eqb-true _ _ same ∙ ap (product a) (sym inverse_of_two)
    ]

pub half_odd : (a : ℕ) → a < 256 → (bit_and a 1 ≡ 0 → ⊥) → bit_xor (a / 2) 0x8E ≡ quotient a 2
half_odd a h odd =
    elim (or_cases (eqb (bit_and a 1) 0) _ (all_below_at 256 (λ a. eqb (bit_and a 1) 0 || eqb (bit_xor (a / 2) 0x8E) (product a 0x8E)) halves_odd a h)) [
      | inl even ↦ absurd (odd (eqb-true _ _ even))
      | inr same ↦ eqb-true _ _ same ∙ ap (product a) (sym inverse_of_two)
    ]

-- ---- the laws of a pair

-- twice the double, and one more, is five times
pub one_and_four : (x : ℕ) → x < 2 ^ 8 → bit_xor x (product 2 (product 2 x)) ≡ product 5 x
unfolding product remainder sum_of_copies
one_and_four x h =
    sym (λ i. bit_xor (one_product x h i) (product_assoc 2 2 x i)) ∙ sym (product_add_left 1 4 x)

cancelled : (a b : ℕ) → bit_xor (bit_xor a b) b ≡ a
cancelled a b = xor_assoc a b b ∙ ap (bit_xor a) (xor_self b) ∙ xor_zero_r a

-- c + 2 d, and twice what the partner has, d + 2 c
five_times : (c d : ℕ) → c < 2 ^ 8 → bit_xor (bit_xor c (product 2 d)) (product 2 (bit_xor d (product 2 c))) ≡ product 5 c
five_times c d h =
    ap (bit_xor (bit_xor c (product 2 d))) (product_add_right 2 d (product 2 c) ∙ xor_comm (product 2 d) (product 2 (product 2 c)))
    ∙ xor_swap c (product 2 d) (product 2 (product 2 c)) (product 2 d)
    ∙ ap (bit_xor (bit_xor c (product 2 (product 2 c)))) (xor_self (product 2 d))
    ∙ xor_zero_r (bit_xor c (product 2 (product 2 c)))
    ∙ one_and_four c h

AreUncoupled-swapped : (c d u v : ℕ) → AreUncoupled c d u v → AreUncoupled d c v u
AreUncoupled-swapped c d u v pair = record { own = pair.partner; partner = pair.own }

AreCoupled-swapped : (u v c d : ℕ) → AreCoupled u v c d → AreCoupled v u d c
AreCoupled-swapped u v c d pair = record { own = pair.partner; partner = pair.own }

coupled_own : (c d u v : ℕ) → c < 2 ^ 8 → AreUncoupled c d u v → c ≡ quotient (bit_xor u (product 2 v)) 5
coupled_own c d u v h pair =
    sym (quotient-product_five c h)
    ∙ ap (λ x. quotient x 5) (sym (five_times c d h) ∙ sym (λ i. bit_xor (pair.own i) (product 2 (pair.partner i))))

pub AreCoupled-uncoupled : (c d u v : ℕ) → c < 2 ^ 8 → d < 2 ^ 8 → AreUncoupled c d u v → AreCoupled u v c d
AreCoupled-uncoupled c d u v hc hd pair = record {
  own = coupled_own c d u v hc pair;
  partner = coupled_own d c v u hd (AreUncoupled-swapped c d u v pair);
}

-- the quotient of a sum whose second part is doubled
quotient-sum : (a b : ℕ) → quotient (bit_xor a (product 2 b)) 5 ≡ bit_xor (quotient a 5) (product 2 (quotient b 5))
quotient-sum a b =
    product_add_left a (product 2 b) (inverse_of 5) ∙ ap (bit_xor (quotient a 5)) (product_assoc 2 b (inverse_of 5))

uncoupled_own : (c d u v : ℕ) → u < 2 ^ 8 → AreCoupled u v c d → u ≡ bit_xor c (product 2 d)
uncoupled_own c d u v h pair =
    let a : ℕ = bit_xor u (product 2 v) in
    let b : ℕ = bit_xor v (product 2 u) in
    sym (quotient-product_five u h)
    ∙ ap (λ x. quotient x 5) (sym (five_times u v h))
    ∙ quotient-sum a b
    ∙ sym (λ i. bit_xor (pair.own i) (product 2 (pair.partner i)))

pub AreUncoupled-coupled : (c d u v : ℕ) → u < 2 ^ 8 → v < 2 ^ 8 → AreCoupled u v c d → AreUncoupled c d u v
AreUncoupled-coupled c d u v hu hv pair = record {
  own = uncoupled_own c d u v hu pair;
  partner = uncoupled_own d c v u hv (AreCoupled-swapped u v c d pair);
}

pub from_partner : (c d u v : ℕ) → c < 2 ^ 8 → AreUncoupled c d u v → u ≡ bit_xor (product 5 c) (product 2 v)
from_partner c d u v h pair =
    sym (cancelled u (product 2 v))
    ∙ ap (λ x. bit_xor x (product 2 v)) ((λ i. bit_xor (pair.own i) (product 2 (pair.partner i))) ∙ five_times c d h)

pub crossed : (c d u v : ℕ) → d < 2 ^ 8 → AreUncoupled c d u v → d ≡ quotient (bit_xor u c) 2
crossed c d u v h pair =
    sym (quotient-product_two d h)
    ∙ ap (λ x. quotient x 2) (sym (cancelled (product 2 d) c) ∙ ap (λ x. bit_xor x c) (xor_comm (product 2 d) c ∙ sym pair.own))

-- The inverse of a byte, and the table of inverses.
use Rattle.std.proofs.Common.{◌≡◌, ℕ, ◌<◌, ◌||◌, Bool, true, inl, inr, eqb, ltb, get_or, sym, ap, ◌∙◌, ◌^◌, refl, arith}
use Rattle.std.proofs.lemmas.Bool.{eqb-true, ltb-true, or_cases}
use Rattle.clay_field.specs.Field.{remainder, sum_of_copies, product}
use Rattle.clay_field.specs.declared.TheConstants.{INVERSES}
use Rattle.clay_field.proofs.FieldLaws.{all_below, all_below_at, product_comm, product_assoc, product_zero, zero_product, product_one, one_product, power_of-lt}
use Rattle.clay_field.proofs.PowerLaws.{power_of-suc, power_of-255}
pub use Rattle.clay_field.specs.Field.{inverse_of}

pub product-inverse_of : (a : ℕ) → a < 2 ^ 8 → (a ≡ 0 → ⊥) → product a (inverse_of a) ≡ 1
unfolding inverse_of
product-inverse_of a h nonzero = sym (power_of-suc a 254) ∙ power_of-255 a h nonzero

pub inverse_of-lt : (a : ℕ) → inverse_of a < 2 ^ 8
unfolding inverse_of
inverse_of-lt a = power_of-lt a 254

-- a factor that isn't 0 is undone by its inverse
pub inverse_of-product : (a b : ℕ) → a < 2 ^ 8 → b < 2 ^ 8 → (a ≡ 0 → ⊥) → product (inverse_of a) (product a b) ≡ b
inverse_of-product a b ha hb nonzero =
    sym (product_assoc (inverse_of a) a b)
    ∙ ap (λ x. product x b) (product_comm (inverse_of a) a ∙ product-inverse_of a ha nonzero)
    ∙ one_product b hb

-- a product is 0 only at a factor 0
pub zero_factor : (a b : ℕ) → a < 2 ^ 8 → b < 2 ^ 8 → (a ≡ 0 → ⊥) → product a b ≡ 0 → b ≡ 0
zero_factor a b ha hb nonzero none =
    sym (inverse_of-product a b ha hb nonzero) ∙ ap (product (inverse_of a)) none ∙ product_zero (inverse_of a)

-- no other byte is an inverse
pub only_inverse : (a b : ℕ) → a < 2 ^ 8 → b < 2 ^ 8 → product a b ≡ 1 → b ≡ inverse_of a
only_inverse a b ha hb one =
    let nonzero : a ≡ 0 → ⊥ = λ z. absurd (omega (arith, sym one ∙ ap (λ x. product x b) z ∙ zero_product b)) in
    sym (inverse_of-product a b ha hb nonzero) ∙ ap (product (inverse_of a)) one ∙ product_one (inverse_of a) (inverse_of-lt a)

inverts : ℕ → Bool
inverts a = eqb a 0 || eqb (product a (get_or INVERSES a 0)) 1

all_invert : all_below 256 inverts ≡ true
unfolding inverts product remainder sum_of_copies
all_invert = refl

pub product-INVERSES : (a : ℕ) → a < 256 → (a ≡ 0 → ⊥) → product a (get_or INVERSES a 0) ≡ 1
unfolding inverts
product-INVERSES a h nonzero =
    elim (or_cases (eqb a 0) _ (all_below_at 256 inverts all_invert a h)) [
      | inl is_zero ↦ absurd (nonzero (eqb-true a 0 is_zero))
      | inr inverse ↦ eqb-true _ _ inverse
    ]

all_bytes : all_below 256 (λ a. ltb (get_or INVERSES a 0) 256) ≡ true
all_bytes = refl

pub INVERSES-inverse_of : (a : ℕ) → a < 2 ^ 8 → (a ≡ 0 → ⊥) → get_or INVERSES a 0 ≡ inverse_of a
INVERSES-inverse_of a h nonzero =
    only_inverse a (get_or INVERSES a 0) h (ltb-true _ _ (all_below_at 256 (λ x. ltb (get_or INVERSES x 0) 256) all_bytes a h)) (product-INVERSES a h nonzero)

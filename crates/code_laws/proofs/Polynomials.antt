-- Polynomials by their coefficients.
use Rattle.std.proofs.Common.{◌≡◌, ◌≢◌, ℕ, zero, suc, pred, ◌<◌, List, ◌∷◌, get_or, sym, ap, ◌∙◌, inl, inr, arith, lit<, bit_xor}
use Rattle.std.proofs.lemmas.Bool.{cases_eq}
use lib.Bits.{xor_zero_r}
use Rattle.clay_field.specs.Field.{product, power_of}
use Rattle.clay_field.proofs.FieldLaws.{product_assoc, product_zero, product_one, product_add_left, product_add_right}
use Rattle.clay_model.specs.Sums.{sum_below}
use Rattle.clay_model.proofs.SumLaws.{sum_below_same, sum_below-xor, sum_below-product, sum_below-zero, product_swap}
use Rattle.code_laws.specs.Lagrange.{value_at}

-- a sum of which one number alone is not zero
pub sum_below-one : (n own : ℕ) (f : ℕ → ℕ) → own < n → ((i : ℕ) → i < n → i ≢ own → f i ≡ 0) → sum_below n f ≡ f own
sum_below-one zero own f h others = absurd (omega arith)
sum_below-one (suc n) own f h others =
    elim (cases_eq n own) [
      | inl same ↦ ap (λ x. bit_xor x (f n)) (sum_below-zero n f (λ i l. others i (omega arith) (λ e. omega arith))) ∙ ap f same
      | inr other ↦
          ap (bit_xor (sum_below n f)) (others n (omega arith) other)
          ∙ xor_zero_r (sum_below n f)
          ∙ sum_below-one n own f (omega (arith, other)) (λ i l. others i (omega arith))
    ]

-- the polynomial 1
pub value_at-one : (n x : ℕ) (c : ℕ → ℕ) → 0 < n → c 0 ≡ 1 → ((j : ℕ) → 0 < j → c j ≡ 0) → value_at n c x ≡ 1
unfolding power_of
value_at-one n x c some first others =
    sum_below-one n 0 (λ j. product (power_of x j) (c j)) some (λ j h other. ap (product (power_of x j)) (others j (omega (arith, other))) ∙ product_zero (power_of x j))
    ∙ ap (product 1) first
    ∙ product_one 1 (lit< tt)

-- x times a polynomial
value_at-shifted : (m x : ℕ) (c : List ℕ) → value_at (suc m) (λ j. get_or (0 ∷ c) j 0) x ≡ product x (value_at m (λ j. get_or c j 0) x)
unfolding power_of
value_at-shifted zero x c = product_zero 1 ∙ sym (product_zero x)
value_at-shifted (suc m) x c =
    (λ k. bit_xor (value_at-shifted m x c k) (product_assoc x (power_of x m) (get_or c m 0) k))
    ∙ sym (product_add_right x (value_at m (λ j. get_or c j 0) x) (product (power_of x m) (get_or c m 0)))

-- the coefficients of a polynomial times (x + root) times a scale
pub record IsMultiple (n root scale : ℕ) (old new : List ℕ) : Type 0 where
  pub each : (j : ℕ) → j < n → get_or new j 0 ≡ product scale (bit_xor (get_or (0 ∷ old) j 0) (product root (get_or old j 0)))

multiple_value : (m x root scale : ℕ) (old new : List ℕ) → IsMultiple (suc m) root scale old new → get_or old m 0 ≡ 0
    → value_at (suc m) (λ j. get_or new j 0) x ≡ product scale (product (bit_xor x root) (value_at (suc m) (λ j. get_or old j 0) x))
multiple_value m x root scale old new multiple top =
    let n : ℕ = suc m in
    let low : ℕ → ℕ = λ j. get_or (0 ∷ old) j 0 in
    let own : ℕ → ℕ = λ j. get_or old j 0 in
    let without_top : value_at n own x ≡ value_at m own x =
    ap (bit_xor (value_at m own x)) (ap (product (power_of x m)) top ∙ product_zero (power_of x m)) ∙ xor_zero_r (value_at m own x) in
    sum_below_same n _ (λ j. product scale (bit_xor (product (power_of x j) (low j)) (product root (product (power_of x j) (own j))))) (λ j h.
    ap (product (power_of x j)) (multiple.each j h)
    ∙ product_swap (power_of x j) scale (bit_xor (low j) (product root (own j)))
    ∙ ap (product scale) (product_add_right (power_of x j) (low j) (product root (own j))
    ∙ ap (bit_xor (product (power_of x j) (low j))) (product_swap (power_of x j) root (own j))))
    ∙ sum_below-product n scale (λ j. bit_xor (product (power_of x j) (low j)) (product root (product (power_of x j) (own j))))
    ∙ ap (product scale)
    (sum_below-xor n (λ j. product (power_of x j) (low j)) (λ j. product root (product (power_of x j) (own j)))
    ∙ (λ k. bit_xor (value_at-shifted m x old k) (sum_below-product n root (λ j. product (power_of x j) (own j)) k))
    ∙ ap (λ v. bit_xor (product x v) (product root (value_at n own x))) (sym without_top)
    ∙ sym (product_add_left x root (value_at n own x)))

-- the value of the product, where the highest coefficient is 0
pub value_at-multiple : (n x root scale : ℕ) (old new : List ℕ) → 0 < n → IsMultiple n root scale old new → get_or old (pred n) 0 ≡ 0
    → value_at n (λ j. get_or new j 0) x ≡ product scale (product (bit_xor x root) (value_at n (λ j. get_or old j 0) x))
value_at-multiple zero x root scale old new some multiple top = absurd (omega arith)
value_at-multiple (suc m) x root scale old new some multiple top = multiple_value m x root scale old new multiple top

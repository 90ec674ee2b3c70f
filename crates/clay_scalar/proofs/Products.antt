-- The product of the factors of a Lagrange polynomial, one factor after another.
use Rattle.std.proofs.Common.{◌≡◌, ◌≢◌, ℕ, zero, suc, pred, ◌+◌, ◌^◌, ◌<◌, ◌≤◌, List, length, get_or, sym, ap, ◌∙◌, inl, inr, arith, cond, bit_xor}
use Rattle.std.proofs.lemmas.Bool.{cases_eq, cases_lt, eq-eqb, ne_eqb}
use Rattle.std.proofs.lemmas.List.{get_or_past}
use lib.Bits.{xor_self}
use Rattle.clay_field.specs.Field.{product}
use Rattle.clay_field.proofs.FieldLaws.{product_comm, product_zero, zero_product, product_one}
use Rattle.code_laws.specs.Lagrange.{value_at, IsLagrange}
use Rattle.code_laws.proofs.Polynomials.{value_at-one, IsMultiple, value_at-multiple}

-- the polynomial after the factors of the first i points, of which the point own has none
pub record HasFactors (points : List ℕ) (own i : ℕ) (polynomial : List ℕ) : Type 0 where
  pub one : value_at (length points) (λ j. get_or polynomial j 0) (get_or points own 0) ≡ 1
  pub zeros : (k : ℕ) → k < i → k ≢ own → value_at (length points) (λ j. get_or polynomial j 0) (get_or points k 0) ≡ 0
  pub degree : (j : ℕ) → i < j → get_or polynomial j 0 ≡ 0
  pub lower : own < i → (j : ℕ) → i ≤ j → get_or polynomial j 0 ≡ 0

pub HasFactors-start : (points : List ℕ) (own : ℕ) (polynomial : List ℕ) → own < length points → get_or polynomial 0 0 ≡ 1 → ((j : ℕ) → 0 < j → get_or polynomial j 0 ≡ 0) → HasFactors points own 0 polynomial
HasFactors-start points own polynomial within first others = record {
  one = value_at-one (length points) (get_or points own 0) (λ j. get_or polynomial j 0) (omega arith) first others;
  zeros = λ k h other. absurd (omega arith);
  degree = others;
  lower = λ h j l. absurd (omega arith);
}

pub HasFactors-own : (points : List ℕ) (own : ℕ) (polynomial : List ℕ) → HasFactors points own own polynomial → HasFactors points own (own + 1) polynomial
HasFactors-own points own polynomial before = record {
  one = before.one;
  zeros = λ k h other. before.zeros k (omega (arith, other)) other;
  degree = λ j h. before.degree j (omega arith);
  lower = λ h j l. before.degree j (omega arith);
}

-- a factor and its scale
pub record IsFactor (points : List ℕ) (own i scale : ℕ) : Type 0 where
  pub own_within : own < length points
  pub within : i < length points
  pub other : i ≢ own
  pub byte : bit_xor (get_or points own 0) (get_or points i 0) < 2 ^ 8
  pub scaled : product (bit_xor (get_or points own 0) (get_or points i 0)) scale ≡ 1

zero_coefficient : (n root scale j : ℕ) (old new : List ℕ) → IsMultiple n root scale old new → length new ≡ n → get_or old j 0 ≡ 0 → get_or old (suc j) 0 ≡ 0 → get_or new (suc j) 0 ≡ 0
zero_coefficient n root scale j old new multiple long below own =
    elim (cases_lt (suc j) n) [
      | inl within ↦
          multiple.each (suc j) within
          ∙ (λ k. product scale (bit_xor (below k) (product root (own k))))
          ∙ ap (product scale) (product_zero root)
          ∙ product_zero scale
      | inr past ↦ get_or_past new (suc j) 0 (omega arith)
    ]

zero_above : (n root scale i : ℕ) (old new : List ℕ) → IsMultiple n root scale old new → length new ≡ n → ((j : ℕ) → i ≤ j → get_or old j 0 ≡ 0) → (j : ℕ) → i < j → get_or new j 0 ≡ 0
zero_above n root scale i old new multiple long zeros zero h = absurd (omega arith)
zero_above n root scale i old new multiple long zeros (suc j) h =
    zero_coefficient n root scale j old new multiple long (zeros j (omega arith)) (zeros (suc j) (omega arith))

pub HasFactors-more : (points : List ℕ) (own i scale : ℕ) (old new : List ℕ) → IsFactor points own i scale → IsMultiple (length points) (get_or points i 0) scale old new → length new ≡ length points
    → HasFactors points own i old → HasFactors points own (i + 1) new
HasFactors-more points own i scale old new factor multiple long before =
    let n : ℕ = length points in
    let p : ℕ → ℕ = λ k. get_or points k 0 in
    let value : ℕ → ℕ = value_at n (λ j. get_or old j 0) in
    let some : 0 < n = let h = factor.within in omega arith in
    let own_within : own < n = factor.own_within in
    let within : i < n = factor.within in
    let top : get_or old (pred n) 0 ≡ 0 =
    elim (cases_lt own i) [
      | inl past ↦ before.lower past (pred n) (omega arith)
      | inr early ↦ before.degree (pred n) (omega (arith, factor.other))
    ] in
    let value_is : (x : ℕ) → value_at n (λ j. get_or new j 0) x ≡ product scale (product (bit_xor x (p i)) (value x)) =
    λ x. value_at-multiple n x (p i) scale old new some multiple top in
    record {
      one =
          value_is (p own)
          ∙ ap (λ v. product scale (product (bit_xor (p own) (p i)) v)) before.one
          ∙ ap (product scale) (product_one (bit_xor (p own) (p i)) factor.byte)
          ∙ product_comm scale (bit_xor (p own) (p i))
          ∙ factor.scaled;
      zeros = λ k h other. value_is (p k) ∙ elim (cases_eq k i) [
        | inl same ↦
            ap (λ x. product scale (product (bit_xor x (p i)) (value (p k)))) (ap p same)
            ∙ ap (λ x. product scale (product x (value (p k)))) (xor_self (p i))
            ∙ ap (product scale) (zero_product (value (p k)))
            ∙ product_zero scale
        | inr earlier ↦
            ap (λ v. product scale (product (bit_xor (p k) (p i)) v)) (before.zeros k (omega (arith, earlier)) other)
            ∙ ap (product scale) (product_zero (bit_xor (p k) (p i)))
            ∙ product_zero scale
      ];
      degree = λ j h. zero_above n (p i) scale (i + 1) old new multiple long (λ l g. before.degree l (omega arith)) j h;
      lower = λ past j h. zero_above n (p i) scale i old new multiple long (before.lower (omega (arith, factor.other))) j (omega arith);
    }

pub IsLagrange-from_factors : (points : List ℕ) (own : ℕ) (polynomial : List ℕ) → HasFactors points own (length points) polynomial → IsLagrange points own (λ j. get_or polynomial j 0)
IsLagrange-from_factors points own polynomial done i h =
    elim (cases_eq i own) [
      | inl same ↦ ap (λ k. value_at (length points) (λ j. get_or polynomial j 0) (get_or points k 0)) same ∙ done.one ∙ ap (λ b. cond b 1 0) (sym (eq-eqb i own same))
      | inr other ↦ done.zeros i h other ∙ ap (λ b. cond b 1 0) (sym (ne_eqb i own other))
    ]

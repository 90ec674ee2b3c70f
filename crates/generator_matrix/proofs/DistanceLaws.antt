-- The factors by products of distances give values that have the sums of what they are made from.
use Rattle.std.proofs.Common.{◌≡◌, ℕ, zero, suc, ◌+◌, ◌-◌, ◌*◌, ◌/◌, ◌%◌, ◌^◌, ◌<◌, ◌≤◌, List, ◌++◌, length, get_or, refl, inl, inr, sym, subst, ap, ◌∙◌, arith, lit<, cond, eqb, bit_xor}
use Rattle.std.proofs.lemmas.Bool.{cases_eq, cases_lt, cond-true, cond-false, eq-eqb, ne_eqb}
use Rattle.std.proofs.lemmas.Nat.{xor_lt, mod_below, div_below, div-mul-add, mod-mul-add}
use Rattle.std.proofs.lemmas.List.{get_or_append_left, get_or-append_right}
use Rattle.std.proofs.Math.Nat.{div-add-mod}
use lib.Bits.{xor_self}
use Rattle.clay_field.specs.Field.{product, power_of, inverse_of}
use Rattle.clay_field.proofs.FieldLaws.{product_lt, product_comm, product_assoc, product_zero, zero_product, product_one, one_product, product_add_left, product_add_right, power_of-lt}
use Rattle.clay_field.proofs.Inverses.{zero_factor, inverse_of-product}
use Rattle.clay_model.proofs.SumLaws.{equal_from_sum, sum_below_same, sum_below-xor, sum_below-product, product_swap}
use Rattle.clay_model.specs.Points.{AreDistinct, sum_over}
use Rattle.code_laws.proofs.PointSums.{sum_at, AreApart, Solves, solution}
use Rattle.code_laws.proofs.Polynomials.{sum_below-one}
use Rattle.generator_matrix.specs.Distances.{product_below, distance, distances, lagrange_factor}

pub product_below-lt : (n : ℕ) (f : ℕ → ℕ) → product_below n f < 2 ^ 8
product_below-lt zero f = lit< tt
product_below-lt (suc n) f = product_lt (product_below n f) (f n)

-- a product with a factor 0
product_below-zero : (n e : ℕ) (f : ℕ → ℕ) → e < n → f e ≡ 0 → product_below n f ≡ 0
product_below-zero zero e f h none = absurd (omega arith)
product_below-zero (suc n) e f h none =
    elim (cases_eq e n) [
      | inl last ↦ ap (λ i. product (product_below n f) (f i)) (sym last) ∙ ap (product (product_below n f)) none ∙ product_zero (product_below n f)
      | inr other ↦ ap (λ p. product p (f n)) (product_below-zero n e f (omega (arith, other)) none) ∙ zero_product (f n)
    ]

-- a product without one
product_below-nonzero : (n : ℕ) (f : ℕ → ℕ) → ((i : ℕ) → i < n → f i < 2 ^ 8) → ((i : ℕ) → i < n → f i ≡ 0 → ⊥) → product_below n f ≡ 0 → ⊥
product_below-nonzero zero f bytes each none = omega (arith, none)
product_below-nonzero (suc n) f bytes each none =
    each n (omega arith)
    (zero_factor (product_below n f) (f n) (product_below-lt n f) (bytes n (omega arith))
    (product_below-nonzero n f (λ i h. bytes i (omega arith)) (λ i h. each i (omega arith))) none)

module _ (points : List ℕ) (own : ℕ) where
  at_own : (x i : ℕ) → i ≡ own → distance points own x i ≡ 1
  at_own x i same = cond-true (eqb i own) 1 (bit_xor x (get_or points i 0)) (eq-eqb i own same)

  at_other : (x i : ℕ) → (i ≡ own → ⊥) → distance points own x i ≡ bit_xor x (get_or points i 0)
  at_other x i other = cond-false (eqb i own) 1 (bit_xor x (get_or points i 0)) (ne_eqb i own other)

  -- one more point
  pub more_own : (x i : ℕ) → i ≡ own → product_below (suc i) (distance points own x) ≡ product_below i (distance points own x)
  more_own x i same =
      ap (product (product_below i (distance points own x))) (at_own x i same)
      ∙ product_one (product_below i (distance points own x)) (product_below-lt i (distance points own x))

  pub more_other : (x i : ℕ) → (i ≡ own → ⊥) → product_below (suc i) (distance points own x) ≡ product (product_below i (distance points own x)) (bit_xor x (get_or points i 0))
  more_other x i other = ap (product (product_below i (distance points own x))) (at_other x i other)

  pub scaled_more : (x i scale : ℕ) → (i ≡ own → ⊥)
      → product (product (product_below i (distance points own x)) scale) (bit_xor x (get_or points i 0)) ≡ product (product_below (suc i) (distance points own x)) scale
  scaled_more x i scale other =
      let before : ℕ = product_below i (distance points own x) in
      let last : ℕ = bit_xor x (get_or points i 0) in
      product_assoc before scale last
      ∙ ap (product before) (product_comm scale last)
      ∙ sym (product_assoc before last scale)
      ∙ ap (λ p. product p scale) (sym (more_other x i other))

  -- how many of the first i points are not own
  others : ℕ → ℕ
  others zero = 0
  others (suc i) = cond (eqb i own) (others i) (suc (others i))

  others_own : (i : ℕ) → i ≡ own → others (suc i) ≡ others i
  unfolding others
  others_own i same = cond-true (eqb i own) (others i) (suc (others i)) (eq-eqb i own same)

  others_other : (i : ℕ) → (i ≡ own → ⊥) → others (suc i) ≡ suc (others i)
  unfolding others
  others_other i other = cond-false (eqb i own) (others i) (suc (others i)) (ne_eqb i own other)

  others_all : (i : ℕ) → others i ≤ i
  unfolding others
  others_all zero = omega arith
  others_all (suc i) =
      let before = others_all i in
      elim (cases_eq i own) [
        | inl same ↦ omega (arith, others_own i same)
        | inr other ↦ omega (arith, others_other i other)
      ]

  fewer : (i : ℕ) → own < i → others i < i
  fewer zero h = absurd (omega arith)
  fewer (suc i) h =
      elim (cases_eq i own) [
        | inl same ↦ let all = others_all i in omega (arith, others_own i same)
        | inr other ↦ let before = fewer i (omega (arith, other)) in omega (arith, others_other i other)
      ]

  distance-lt : (x i : ℕ) → x < 2 ^ 8 → get_or points i 0 < 2 ^ 8 → distance points own x i < 2 ^ 8
  distance-lt x i hx hp =
      elim (cases_eq i own) [
        | inl same ↦ subst (λ d. d < 2 ^ 8) (sym (at_own x i same)) (lit< tt)
        | inr other ↦ subst (λ d. d < 2 ^ 8) (sym (at_other x i other)) (xor_lt 8 x (get_or points i 0) hx hp)
      ]

  pub own_nonzero : own < length points → AreDistinct points → ((e : ℕ) → get_or points e 0 < 2 ^ 8) → distances points own (get_or points own 0) ≡ 0 → ⊥
  own_nonzero within distinct bytes =
      product_below-nonzero (length points) (distance points own (get_or points own 0)) (λ i h. distance-lt (get_or points own 0) i (bytes own) (bytes i))
      (λ i h none. elim (cases_eq i own) [
        | inl same ↦ omega (arith, sym (at_own (get_or points own 0) i same) ∙ none)
        | inr other ↦
            let equal : get_or points own 0 ≡ get_or points i 0 = equal_from_sum (get_or points own 0) (get_or points i 0) (sym (at_other (get_or points own 0) i other) ∙ none) in
            elim (cases_lt own i) [
              | inl before ↦ distinct own i before h equal
              | inr after ↦ distinct i own (omega (arith, after, other)) within (sym equal)
            ]
      ])

-- the sums of values that are each multiplied by the distance of their point from q
shifted_sums : (p : ℕ → ℕ) (n q j : ℕ) (f : ℕ → ℕ) → sum_at p n (λ e. product (bit_xor (p e) q) (f e)) j ≡ bit_xor (sum_at p n f (suc j)) (product q (sum_at p n f j))
unfolding power_of
shifted_sums p n q j f =
    let each : (e : ℕ) → e < n → product (power_of (p e) j) (product (bit_xor (p e) q) (f e)) ≡ bit_xor (product (product (p e) (power_of (p e) j)) (f e)) (product q (product (power_of (p e) j) (f e))) =
    λ e h. ap (product (power_of (p e) j)) (product_add_left (p e) q (f e))
    ∙ product_add_right (power_of (p e) j) (product (p e) (f e)) (product q (f e))
    ∙ (λ k. bit_xor ((product_swap (power_of (p e) j) (p e) (f e) ∙ sym (product_assoc (p e) (power_of (p e) j) (f e))) k) (product_swap (power_of (p e) j) q (f e) k)) in
    sum_below_same n _ (λ e. bit_xor (product (product (p e) (power_of (p e) j)) (f e)) (product q (product (power_of (p e) j) (f e)))) each
    ∙ sum_below-xor n (λ e. product (product (p e) (power_of (p e) j)) (f e)) (λ e. product q (product (power_of (p e) j) (f e)))
    ∙ ap (bit_xor (sum_at p n f (suc j))) (sum_below-product n q (λ e. product (power_of (p e) j) (f e)))

one_distance_more : (x q power before : ℕ) → bit_xor (product (product x power) before) (product q (product power before)) ≡ product power (product before (bit_xor x q))
one_distance_more x q power before =
    ap (λ v. bit_xor v (product q (product power before))) (product_assoc x power before)
    ∙ sym (product_add_left x q (product power before))
    ∙ product_comm (bit_xor x q) (product power before)
    ∙ product_assoc power before (bit_xor x q)

-- values at the points whose sums are the powers of x
module _ (points : List ℕ) (own x : ℕ) (f : ℕ → ℕ) (solved : Solves (λ e. get_or points e 0) (length points) (power_of x) f) where
  weighed : ℕ → ℕ → ℕ
  weighed i e = product (product_below i (distance points own (get_or points e 0))) (f e)

  -- with each point's distances their sums are x's powers with x's distances
  weighed_sums : (i j : ℕ) → j + others points own i < length points
      → sum_at (λ e. get_or points e 0) (length points) (weighed i) j ≡ product (power_of x j) (product_below i (distance points own x))
  unfolding power_of weighed others
  weighed_sums zero j h =
      sum_below_same (length points) _ (λ e. product (power_of (get_or points e 0) j) (f e)) (λ e l. ap (product (power_of (get_or points e 0) j)) (one_product (f e) (solved.bytes e)))
      ∙ solved.weighted j (omega arith)
      ∙ sym (product_one (power_of x j) (power_of-lt x j))
  weighed_sums (suc i) j h =
      let p : ℕ → ℕ = λ e. get_or points e 0 in
      let n : ℕ = length points in
      let before : ℕ → ℕ = λ y. product_below i (distance points own y) in
      elim (cases_eq i own) [
        | inl same ↦
            sum_below_same n _ (λ e. product (power_of (p e) j) (product (before (p e)) (f e))) (λ e l. ap (λ d. product (power_of (p e) j) (product d (f e))) (more_own points own (p e) i same))
            ∙ weighed_sums i j (omega (arith, h, others_own points own i same))
            ∙ ap (product (power_of x j)) (sym (more_own points own x i same))
        | inr other ↦
            let more = others_other points own i other in
            sum_below_same n _ (λ e. product (power_of (p e) j) (product (bit_xor (p e) (p i)) (product (before (p e)) (f e))))
            (λ e l. ap (product (power_of (p e) j))
            (ap (λ d. product d (f e)) (more_other points own (p e) i other ∙ product_comm (before (p e)) (bit_xor (p e) (p i)))
            ∙ product_assoc (bit_xor (p e) (p i)) (before (p e)) (f e)))
            ∙ shifted_sums p n (p i) j (λ e. product (before (p e)) (f e))
            ∙ (λ k. bit_xor (weighed_sums i (suc j) (omega (arith, h, more)) k) (product (p i) (weighed_sums i j (omega (arith, h, more)) k)))
            ∙ one_distance_more x (p i) (power_of x j) (before x)
            ∙ ap (product (power_of x j)) (sym (more_other points own x i other))
      ]

  -- of all points' values that of own is left
  own_weighed : own < length points → product (distances points own (get_or points own 0)) (f own) ≡ distances points own x
  unfolding power_of weighed
  own_weighed within =
      let p : ℕ → ℕ = λ e. get_or points e 0 in
      let n : ℕ = length points in
      let value : ℕ → ℕ = λ e. product (distances points own (p e)) (f e) in
      sym (one_product (value own) (product_lt (distances points own (p own)) (f own)))
      ∙ sym (sum_below-one n own (λ e. product 1 (value e)) within
      (λ e h other. ap (λ d. product 1 (product d (f e))) (product_below-zero n e (distance points own (p e)) h (at_other points own (p e) e other ∙ xor_self (p e)))
      ∙ ap (product 1) (zero_product (f e)) ∙ product_zero 1))
      ∙ weighed_sums n 0 (omega (arith, fewer points own n within))
      ∙ one_product (distances points own x) (product_below-lt n (distance points own x))

  is_lagrange_factor : own < length points → AreDistinct points → ((e : ℕ) → get_or points e 0 < 2 ^ 8) → f own ≡ lagrange_factor points own x
  is_lagrange_factor within distinct bytes =
      let divisor : ℕ = distances points own (get_or points own 0) in
      sym (inverse_of-product divisor (f own) (product_below-lt (length points) (distance points own (get_or points own 0))) (solved.bytes own) (own_nonzero points own within distinct bytes))
      ∙ ap (product (inverse_of divisor)) (own_weighed within)
      ∙ product_comm (inverse_of divisor) (distances points own x)

-- the factors of x have the sums that are its powers
pub lagrange_sums : (points : List ℕ) (x : ℕ) (value : ℕ → ℕ) → AreDistinct points → ((e : ℕ) → get_or points e 0 < 2 ^ 8)
    → ((e : ℕ) → e < length points → value e ≡ lagrange_factor points e x) → (j : ℕ) → j < length points → sum_over points value j ≡ power_of x j
lagrange_sums points x value distinct bytes each j hj =
    let apart : AreApart (λ e. get_or points e 0) (length points) = record { bytes = λ e h. bytes e; apart = distinct } in
    let found = solution (λ e. get_or points e 0) (length points) (power_of x) apart (power_of-lt x) in
    sum_below_same (length points) _ (λ e. product (power_of (get_or points e 0) j) (found.0 e))
    (λ e h. ap (product (power_of (get_or points e 0) j)) (each e h ∙ sym (is_lagrange_factor points e x found.0 found.1 h distinct bytes)))
    ∙ found.1.weighted j hj

-- ---- rows of factors, a block of sixteen after another

block_nonempty : (b m blocks : ℕ) → b < m * blocks → 0 < blocks
block_nonempty b m blocks h =
    elim (cases_lt 0 blocks) [
      | inl some ↦ some
      | inr none ↦
          let zero_blocks : blocks ≡ 0 = omega arith in
          let empty : m * blocks ≡ m * 0 = ap (λ x. m * x) zero_blocks in
          absurd (omega arith)
    ]

pub row_below : (b m blocks : ℕ) → b < m * blocks → b / blocks < m
row_below b m blocks h = div_below b blocks m (block_nonempty b m blocks h) h

pub blocks_more : (m blocks b : ℕ) (nodes factors block : List ℕ) (f : ℕ → ℕ → ℕ) → b < m * blocks → blocks * 16 ≡ length nodes → length factors ≡ b * 16 → length block ≡ 16
    → ((p : ℕ) → p < b * 16 → get_or factors p 0 ≡ f (p / length nodes) (get_or nodes (p % length nodes) 0))
    → ((k : ℕ) → k < 16 → get_or block k 0 ≡ f (b / blocks) (get_or nodes (b % blocks * 16 + k) 0))
    → (p : ℕ) → p < (b + 1) * 16 → get_or (factors ++ block) p 0 ≡ f (p / length nodes) (get_or nodes (p % length nodes) 0)
blocks_more m blocks b nodes factors block f inside size long block_long before each p h =
    elim (cases_lt p (length factors)) [
      | inl earlier ↦ get_or_append_left factors block 0 p earlier ∙ before p (omega arith)
      | inr past ↦
          let n = length nodes in
          let row : ℕ = b / blocks in
          let column : ℕ = b % blocks in
          let k : ℕ = p - length factors in
          let within : k < 16 = omega (arith, past, h, long) in
          let column_below : column < blocks = mod_below b blocks (block_nonempty b m blocks inside) in
          let place : column * 16 + k < n = omega arith in
          let split : blocks * row + column ≡ b = div-add-mod b blocks in
          let across : row * n ≡ blocks * row * 16 = ap (λ x. row * x) (sym size) ∙ omega arith in
          let is : row * n + (column * 16 + k) ≡ p = omega (arith, past, long) in
          get_or-append_right factors block (length factors) p 0 refl (omega (arith, past))
          ∙ each k within
          ∙ sym (ap (λ q. f (q / n) (get_or nodes (q % n) 0)) (sym is)
          ∙ (λ t. f (div-mul-add row n (column * 16 + k) place t) (get_or nodes (mod-mul-add row n (column * 16 + k) place t) 0)))
    ]

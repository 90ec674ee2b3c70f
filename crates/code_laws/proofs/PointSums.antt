-- Weighted sums over distinct points: which values have them, and that only one does.
-- Values with any weighted sums exist (an induction on the points), and the coefficients times the sums of such values give the values
-- back at each point (picked). So solve needs no argument about square matrices.
use Rattle.std.proofs.Common.{◌≡◌, ◌≢◌, ℕ, zero, suc, ◌^◌, ◌<◌, cond, refl, sym, ap, ◌∙◌, inl, inr, arith, lit<, eqb, bit_xor}
use Rattle.std.proofs.lemmas.Bool.{cases_eq, cond-true, cond-false, cond_both, eq-eqb, ne_eqb}
use Rattle.std.proofs.lemmas.Nat.{xor_comm, xor_lt}
use lib.Bits.{xor_assoc, xor_self, xor_zero_r}
use Rattle.clay_field.specs.Field.{product, power_of}
use Rattle.clay_field.proofs.FieldLaws.{product_lt, product_assoc, product_zero, one_product, product_add_left, product_add_right}
use Rattle.clay_field.proofs.Inverses.{zero_factor, inverse_of, product-inverse_of}
use Rattle.clay_model.specs.Sums.{sum_below}
use Rattle.clay_model.proofs.SumLaws.{equal_from_sum, sum_below_same, sum_below-xor, sum_below-product, sum_below-zero, product_swap}

-- the weighted sum over the first n points
abbrev pub sum_at : (ℕ → ℕ) → ℕ → (ℕ → ℕ) → ℕ → ℕ
sum_at p n f j = sum_below n (λ e. product (power_of (p e) j) (f e))

-- the first n points are distinct bytes
pub record AreApart (p : ℕ → ℕ) (n : ℕ) : Type 0 where
  pub bytes : (e : ℕ) → e < n → p e < 2 ^ 8
  pub apart : (d e : ℕ) → d < e → e < n → p d ≢ p e

AreApart-fewer : (p : ℕ → ℕ) (n : ℕ) → AreApart p (suc n) → AreApart p n
AreApart-fewer p n a = record {
  bytes = λ e h. a.bytes e (omega arith);
  apart = λ d e l h. a.apart d e l (omega arith);
}

difference_byte : (p : ℕ → ℕ) (n e : ℕ) → AreApart p (suc n) → e < n → bit_xor (p e) (p n) < 2 ^ 8
difference_byte p n e a h = xor_lt 8 (p e) (p n) (a.bytes e (omega arith)) (a.bytes n (omega arith))

difference_nonzero : (p : ℕ → ℕ) (n e : ℕ) → AreApart p (suc n) → e < n → bit_xor (p e) (p n) ≢ 0
difference_nonzero p n e a h = λ none. a.apart e n h (omega arith) (equal_from_sum (p e) (p n) none)

-- the sums of values that are each multiplied by the sum of their point and q
shifted_sums : (p : ℕ → ℕ) (n q j : ℕ) (f : ℕ → ℕ) → sum_at p n (λ e. product (bit_xor (p e) q) (f e)) j ≡ bit_xor (sum_at p n f (suc j)) (product q (sum_at p n f j))
unfolding power_of
shifted_sums p n q j f =
    let each : (e : ℕ) → e < n → product (power_of (p e) j) (product (bit_xor (p e) q) (f e)) ≡ bit_xor (product (product (p e) (power_of (p e) j)) (f e)) (product q (product (power_of (p e) j) (f e))) =
    λ e h. ap (product (power_of (p e) j)) (product_add_left (p e) q (f e))
    ∙ product_add_right (power_of (p e) j) (product (p e) (f e)) (product q (f e))
    ∙ ap (bit_xor (product (power_of (p e) j) (product (p e) (f e)))) (product_swap (power_of (p e) j) q (f e))
    ∙ ap (λ x. bit_xor x (product q (product (power_of (p e) j) (f e)))) (product_swap (power_of (p e) j) (p e) (f e) ∙ sym (product_assoc (p e) (power_of (p e) j) (f e))) in
    sum_below_same n _ (λ e. bit_xor (product (product (p e) (power_of (p e) j)) (f e)) (product q (product (power_of (p e) j) (f e)))) each
    ∙ sum_below-xor n (λ e. product (product (p e) (power_of (p e) j)) (f e)) (λ e. product q (product (power_of (p e) j) (f e)))
    ∙ ap (bit_xor (sum_at p n f (suc j))) (sum_below-product n q (λ e. product (power_of (p e) j) (f e)))

-- ---- values are known by their sums

-- values at the first n points, of which the first n sums are zero
pub record IsBalanced (p : ℕ → ℕ) (n : ℕ) (f : ℕ → ℕ) : Type 0 where
  pub bytes : (e : ℕ) → e < n → f e < 2 ^ 8
  pub sums : (j : ℕ) → j < n → sum_at p n f j ≡ 0

with_last_zero : (p : ℕ → ℕ) (n : ℕ) (f : ℕ → ℕ) → AreApart p (suc n) → ((g : ℕ → ℕ) → IsBalanced p n g → (e : ℕ) → e < n → g e ≡ 0) → IsBalanced p (suc n) f → (e : ℕ) → e < suc n → f e ≡ 0
unfolding power_of
with_last_zero p n f a ih b =
    let last : ℕ → ℕ = λ j. product (power_of (p n) j) (f n) in
    let known : (j : ℕ) → j < suc n → sum_at p n f j ≡ last j = λ j h. equal_from_sum (sum_at p n f j) (last j) (b.sums j h) in
    let g : ℕ → ℕ = λ e. product (bit_xor (p e) (p n)) (f e) in
    let balanced : IsBalanced p n g = record {
      bytes = λ e h. product_lt (bit_xor (p e) (p n)) (f e);
      sums = λ j h.
          shifted_sums p n (p n) j f
          ∙ ap (λ x. bit_xor x (product (p n) (sum_at p n f j))) (known (suc j) (omega arith) ∙ product_assoc (p n) (power_of (p n) j) (f n))
          ∙ ap (λ x. bit_xor (product (p n) (last j)) (product (p n) x)) (known j (omega arith))
          ∙ xor_self (product (p n) (last j));
    } in
    let before : (e : ℕ) → e < n → f e ≡ 0 =
    λ e h. zero_factor (bit_xor (p e) (p n)) (f e) (difference_byte p n e a h) (b.bytes e (omega arith)) (difference_nonzero p n e a h) (ih g balanced e h) in
    let at_last : f n ≡ 0 =
    sym (one_product (f n) (b.bytes n (omega arith))) ∙ sym (known 0 (omega arith))
    ∙ sum_below-zero n (λ e. product 1 (f e)) (λ e h. ap (product 1) (before e h) ∙ product_zero 1) in
    λ e h. elim (cases_eq e n) [
      | inl same ↦ ap f same ∙ at_last
      | inr other ↦ before e (omega (arith, other))
    ]

pub all_zero : (p : ℕ → ℕ) (n : ℕ) (f : ℕ → ℕ) → AreApart p n → IsBalanced p n f → (e : ℕ) → e < n → f e ≡ 0
all_zero p zero f a b = λ e h. absurd (omega arith)
all_zero p (suc n) f a b = with_last_zero p n f a (λ g. all_zero p n g (AreApart-fewer p n a)) b

pub same_values : (p : ℕ → ℕ) (n : ℕ) (f g : ℕ → ℕ) → AreApart p n
    → ((e : ℕ) → e < n → f e < 2 ^ 8) → ((e : ℕ) → e < n → g e < 2 ^ 8)
    → ((j : ℕ) → j < n → sum_at p n f j ≡ sum_at p n g j) → (e : ℕ) → e < n → f e ≡ g e
same_values p n f g a fbytes gbytes sums e h =
    let d : ℕ → ℕ = λ i. bit_xor (f i) (g i) in
    let balanced : IsBalanced p n d = record {
      bytes = λ i l. xor_lt 8 (f i) (g i) (fbytes i l) (gbytes i l);
      sums = λ j l.
          sum_below_same n _ (λ i. bit_xor (product (power_of (p i) j) (f i)) (product (power_of (p i) j) (g i))) (λ i k. product_add_right (power_of (p i) j) (f i) (g i))
          ∙ sum_below-xor n (λ i. product (power_of (p i) j) (f i)) (λ i. product (power_of (p i) j) (g i))
          ∙ ap (λ x. bit_xor x (sum_at p n g j)) (sums j l)
          ∙ xor_self (sum_at p n g j);
    } in
    equal_from_sum (f e) (g e) (all_zero p n d a balanced e h)

-- ---- any sums are those of some values

-- values whose first n sums over the first n points are given
pub record Solves (p : ℕ → ℕ) (n : ℕ) (sums f : ℕ → ℕ) : Type 0 where
  pub bytes : (e : ℕ) → f e < 2 ^ 8
  pub weighted : (j : ℕ) → j < n → sum_at p n f j ≡ sums j

xor_cancel : (a b c : ℕ) → bit_xor (bit_xor a b) (bit_xor b c) ≡ bit_xor a c
xor_cancel a b c =
    xor_assoc a b (bit_xor b c) ∙ ap (bit_xor a) (sym (xor_assoc b b c) ∙ ap (λ v. bit_xor v c) (xor_self b))

xor_chain : (w v x s r : ℕ) → bit_xor w v ≡ bit_xor s r → bit_xor v x ≡ r → bit_xor w x ≡ s
xor_chain w v x s r first second =
    sym (xor_cancel w v x) ∙ (λ i. bit_xor (first i) (second i)) ∙ xor_assoc s r r ∙ ap (bit_xor s) (xor_self r) ∙ xor_zero_r s

xor_back : (w s : ℕ) → bit_xor w (bit_xor s w) ≡ s
xor_back w s = ap (bit_xor w) (xor_comm s w) ∙ sym (xor_assoc w w s) ∙ ap (λ v. bit_xor v s) (xor_self w)

sum_byte : (n : ℕ) (f : ℕ → ℕ) → ((e : ℕ) → f e < 2 ^ 8) → sum_below n f < 2 ^ 8
sum_byte zero f each = lit< tt
sum_byte (suc n) f each = xor_lt 8 (sum_below n f) (f n) (sum_byte n f each) (each n)

sum_at_byte : (p : ℕ → ℕ) (n : ℕ) (f : ℕ → ℕ) (j : ℕ) → sum_at p n f j < 2 ^ 8
sum_at_byte p n f j = sum_byte n (λ e. product (power_of (p e) j) (f e)) (λ e. product_lt (power_of (p e) j) (f e))

-- the sums of n points that those of n + 1 points leave, once the last is taken out
abbrev without_last : (ℕ → ℕ) → ℕ → (ℕ → ℕ) → ℕ → ℕ
without_last p n sums j = bit_xor (sums (suc j)) (product (p n) (sums j))

divided : (ℕ → ℕ) → ℕ → (ℕ → ℕ) → ℕ → ℕ
divided p n g e = product (inverse_of (bit_xor (p e) (p n))) (g e)

module _ (p : ℕ → ℕ) (n : ℕ) (sums g : ℕ → ℕ) (a : AreApart p (suc n)) (bytes : (j : ℕ) → sums j < 2 ^ 8) (solved : Solves p n (without_last p n sums) g) where
  divided_back : (e : ℕ) → e < n → product (bit_xor (p e) (p n)) (divided p n g e) ≡ g e
  unfolding divided
  divided_back e h =
      sym (product_assoc (bit_xor (p e) (p n)) (inverse_of (bit_xor (p e) (p n))) (g e))
      ∙ ap (λ v. product v (g e)) (product-inverse_of (bit_xor (p e) (p n)) (difference_byte p n e a h) (difference_nonzero p n e a h))
      ∙ one_product (g e) (solved.bytes e)

  rest : ℕ → ℕ
  rest = sum_at p n (divided p n g)

  last_value : ℕ
  last_value = bit_xor (sums 0) (rest 0)

  last_byte : last_value < 2 ^ 8
  unfolding last_value rest
  last_byte = xor_lt 8 (sums 0) (rest 0) (bytes 0) (sum_at_byte p n (divided p n g) 0)

  with_last : (j : ℕ) → j < suc n → bit_xor (rest j) (product (power_of (p n) j) last_value) ≡ sums j
  unfolding rest last_value power_of
  with_last zero h = ap (bit_xor (rest 0)) (one_product last_value last_byte) ∙ xor_back (rest 0) (sums 0)
  with_last (suc j) h =
      let before = with_last j (omega arith) in
      ap (bit_xor (rest (suc j))) (product_assoc (p n) (power_of (p n) j) last_value)
      ∙ xor_chain (rest (suc j)) (product (p n) (rest j)) (product (p n) (product (power_of (p n) j) last_value)) (sums (suc j)) (product (p n) (sums j))
      (sym (shifted_sums p n (p n) j (divided p n g))
      ∙ sum_below_same n _ (λ e. product (power_of (p e) j) (g e)) (λ e l. ap (product (power_of (p e) j)) (divided_back e l))
      ∙ solved.weighted j (omega arith))
      (sym (product_add_right (p n) (rest j) (product (power_of (p n) j) last_value)) ∙ ap (product (p n)) before)

  extended : ℕ → ℕ
  extended e = cond (eqb e n) last_value (divided p n g e)

  extended_solves : Solves p (suc n) sums extended
  unfolding extended divided rest
  extended_solves = record {
    bytes = λ e. cond_both (eqb e n) last_value (divided p n g e) (λ v. v < 2 ^ 8) (λ same. last_byte) (λ other. product_lt (inverse_of (bit_xor (p e) (p n))) (g e));
    weighted = λ j h.
        let others = sum_below_same n (λ e. product (power_of (p e) j) (extended e)) (λ e. product (power_of (p e) j) (divided p n g e))
        (λ e l. ap (product (power_of (p e) j)) (cond-false (eqb e n) last_value (divided p n g e) (ne_eqb e n (λ same. omega arith)))) in
        (λ k. bit_xor (others k) (product (power_of (p n) j) (cond-true (eqb n n) last_value (divided p n g n) (eq-eqb n n refl) k)))
        ∙ with_last j h;
  }

pub solution : (p : ℕ → ℕ) (n : ℕ) (sums : ℕ → ℕ) → AreApart p n → ((j : ℕ) → sums j < 2 ^ 8) → (f : ℕ → ℕ) × Solves p n sums f
solution p zero sums a bytes = (λ e. 0, record { bytes = λ e. lit< tt; weighted = λ j h. absurd (omega arith) })
solution p (suc n) sums a bytes =
    let found = solution p n (without_last p n sums) (AreApart-fewer p n a)
    (λ j. xor_lt 8 (sums (suc j)) (product (p n) (sums j)) (bytes (suc j)) (product_lt (p n) (sums j))) in
    (extended p n sums found.0 a bytes found.1, extended_solves p n sums found.0 a bytes found.1)

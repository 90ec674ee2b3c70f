-- Sums in the field, and values that are zero since their weighted sums are.
use Rattle.std.proofs.Common.{◌≡◌, ℕ, zero, suc, pred, subst, ◌^◌, ◌<◌, ◌≤◌, Bool, false, cond, refl, sym, ap, ◌∙◌, inl, inr, arith, bit_xor}
use Rattle.std.proofs.lemmas.Bool.{cases_eq, cases_Bool}
use Rattle.std.proofs.lemmas.Nat.{xor_lt}
use lib.Bits.{xor_assoc, xor_self, xor_zero_r}
use Rattle.clay_field.specs.Field.{product, power_of}
use Rattle.clay_field.proofs.Additive.{xor_swap}
use Rattle.clay_field.proofs.FieldLaws.{product_lt, product_comm, product_assoc, product_zero, one_product, product_add_left, product_add_right}
use Rattle.clay_field.proofs.Inverses.{zero_factor}
use Rattle.clay_model.specs.Sums.{sum_below, weighted_sum}
use Rattle.clay_grid.specs.Score.{count_below}

-- 1 for a number that counts
abbrev pub one_if : Bool → ℕ
one_if passes = cond passes 1 0

-- equal numbers are those whose sum is zero
pub equal_from_sum : (a b : ℕ) → bit_xor a b ≡ 0 → a ≡ b
equal_from_sum a b e =
    sym (xor_zero_r a) ∙ ap (bit_xor a) (sym (xor_self b)) ∙ sym (xor_assoc a b b) ∙ ap (λ x. bit_xor x b) e

pub sum_below_same : (n : ℕ) (f g : ℕ → ℕ) → ((i : ℕ) → i < n → f i ≡ g i) → sum_below n f ≡ sum_below n g
sum_below_same zero f g each = refl
sum_below_same (suc n) f g each =
    let rest = sum_below_same n f g (λ i h. each i (omega arith)) in
    let last = each n (omega arith) in
    λ k. bit_xor (rest k) (last k)

pub sum_below-xor : (n : ℕ) (f g : ℕ → ℕ) → sum_below n (λ i. bit_xor (f i) (g i)) ≡ bit_xor (sum_below n f) (sum_below n g)
sum_below-xor zero f g = refl
sum_below-xor (suc n) f g =
    ap (λ x. bit_xor x (bit_xor (f n) (g n))) (sum_below-xor n f g)
    ∙ xor_swap (sum_below n f) (sum_below n g) (f n) (g n)

pub sum_below-product : (n c : ℕ) (f : ℕ → ℕ) → sum_below n (λ i. product c (f i)) ≡ product c (sum_below n f)
sum_below-product zero c f = sym (product_zero c)
sum_below-product (suc n) c f =
    ap (λ x. bit_xor x (product c (f n))) (sum_below-product n c f)
    ∙ sym (product_add_right c (sum_below n f) (f n))

pub sum_below-zero : (n : ℕ) (f : ℕ → ℕ) → ((i : ℕ) → i < n → f i ≡ 0) → sum_below n f ≡ 0
sum_below-zero zero f each = refl
sum_below-zero (suc n) f each =
    let rest = sum_below-zero n f (λ i h. each i (omega arith)) in
    let last = each n (omega arith) in
    λ k. bit_xor (rest k) (last k)

pub product_swap : (a b c : ℕ) → product a (product b c) ≡ product b (product a c)
product_swap a b c = sym (product_assoc a b c) ∙ ap (λ x. product x c) (product_comm a b) ∙ product_assoc b a c

-- the weighted sums of the values that are each multiplied by the sum of their number and p
pub shifted_weights : (n p j : ℕ) (f : ℕ → ℕ) → weighted_sum n (λ i. product (bit_xor i p) (f i)) j ≡ bit_xor (weighted_sum n f (suc j)) (product p (weighted_sum n f j))
unfolding power_of
shifted_weights n p j f =
    let each : (i : ℕ) → i < n → product (power_of i j) (product (bit_xor i p) (f i)) ≡ bit_xor (product (product i (power_of i j)) (f i)) (product p (product (power_of i j) (f i))) =
    λ i h. ap (product (power_of i j)) (product_add_left i p (f i))
    ∙ product_add_right (power_of i j) (product i (f i)) (product p (f i))
    ∙ ap (bit_xor (product (power_of i j) (product i (f i)))) (product_swap (power_of i j) p (f i))
    ∙ ap (λ x. bit_xor x (product p (product (power_of i j) (f i)))) (product_swap (power_of i j) i (f i) ∙ sym (product_assoc i (power_of i j) (f i))) in
    sum_below_same n _ (λ i. bit_xor (product (product i (power_of i j)) (f i)) (product p (product (power_of i j) (f i)))) each
    ∙ sum_below-xor n (λ i. product (product i (power_of i j)) (f i)) (λ i. product p (product (power_of i j) (f i)))
    ∙ ap (bit_xor (weighted_sum n f (suc j))) (sum_below-product n p (λ i. product (power_of i j) (f i)))

-- of the values at the numbers below n, those that fail the test are zero, and so are the first m weighted sums
pub record IsBalanced (n m : ℕ) (test : ℕ → Bool) (f : ℕ → ℕ) : Type 0 where
  pub bytes : (i : ℕ) → f i < 2 ^ 8
  pub elsewhere : (i : ℕ) → i < n → test i ≡ false → f i ≡ 0
  pub sums : (j : ℕ) → j < m → weighted_sum n f j ≡ 0

last_passes : (n m : ℕ) (test : ℕ → Bool) (f : ℕ → ℕ) → suc n ≤ 2 ^ 8 → ((g : ℕ → ℕ) → IsBalanced n m test g → (i : ℕ) → i < n → g i ≡ 0) → IsBalanced (suc n) (suc m) test f → (i : ℕ) → i < suc n → f i ≡ 0
unfolding power_of
last_passes n m test f fits ih b =
    let last : ℕ → ℕ = λ j. product (power_of n j) (f n) in
    let known : (j : ℕ) → j < suc m → weighted_sum n f j ≡ last j = λ j h. equal_from_sum (weighted_sum n f j) (last j) (b.sums j h) in
    let g : ℕ → ℕ = λ i. product (bit_xor i n) (f i) in
    let balanced : IsBalanced n m test g = record {
      bytes = λ i. product_lt (bit_xor i n) (f i);
      elsewhere = λ i h out. ap (product (bit_xor i n)) (b.elsewhere i (omega arith) out) ∙ product_zero (bit_xor i n);
      sums = λ j h.
          shifted_weights n n j f
          ∙ ap (λ x. bit_xor x (product n (weighted_sum n f j))) (known (suc j) (omega arith) ∙ product_assoc n (power_of n j) (f n))
          ∙ ap (λ x. bit_xor (product n (last j)) (product n x)) (known j (omega arith))
          ∙ xor_self (product n (last j));
    } in
    let before : (i : ℕ) → i < n → f i ≡ 0 =
    λ i h. zero_factor (bit_xor i n) (f i) (xor_lt 8 i n (omega arith) (omega arith)) (b.bytes i)
    (λ same. let e = equal_from_sum i n same in omega arith) (ih g balanced i h) in
    let at_last : f n ≡ 0 =
    sym (one_product (f n) (b.bytes n)) ∙ sym (known 0 (omega arith))
    ∙ sum_below-zero n (λ i. product 1 (f i)) (λ i h. ap (product 1) (before i h) ∙ product_zero 1) in
    λ i h. elim (cases_eq i n) [
      | inl same ↦ ap f same ∙ at_last
      | inr other ↦ before i (omega (arith, other))
    ]

-- Values that pass the test at no more than m numbers, and of which the first m weighted sums are zero, are zero.
pub all_zero : (n m : ℕ) (test : ℕ → Bool) (f : ℕ → ℕ) → n ≤ 2 ^ 8 → count_below n test ≤ m → IsBalanced n m test f → (i : ℕ) → i < n → f i ≡ 0
all_zero zero m test f fits few b = λ i h. absurd (omega arith)
all_zero (suc n) m test f fits few b =
    elim (cases_Bool (test n)) [
      | inl passes ↦
          let some : one_if (test n) ≡ 1 = ap one_if passes in
          let positive : m ≡ suc (pred m) = omega arith in
          last_passes n (pred m) test f fits (λ g. all_zero n (pred m) test g (omega arith) (omega arith)) (subst (λ x. IsBalanced (suc n) x test f) positive b)
      | inr fails ↦
          let none : one_if (test n) ≡ 0 = ap one_if fails in
          let at_last : f n ≡ 0 = b.elsewhere n (omega arith) fails in
          let balanced : IsBalanced n m test f = record {
            bytes = b.bytes;
            elsewhere = λ i h out. b.elsewhere i (omega arith) out;
            sums = λ j h.
                sym (xor_zero_r (weighted_sum n f j))
                ∙ ap (bit_xor (weighted_sum n f j)) (sym (ap (product (power_of n j)) at_last ∙ product_zero (power_of n j)))
                ∙ b.sums j h;
          } in
          let before = all_zero n m test f (omega arith) (omega arith) balanced in
          λ i h. elim (cases_eq i n) [
            | inl same ↦ ap f same ∙ at_last
            | inr other ↦ before i (omega (arith, other))
          ]
    ]

-- The laws of powers, and that the powers of 2 are the nonzero bytes.
use Rattle.std.proofs.Common.{◌≡◌, ℕ, zero, suc, ◌+◌, ◌*◌, ◌/◌, ◌%◌, ◌^◌, ◌<◌, inl, inr, Bool, true, false, ◌||◌, cond, eqb, ltb, bit_xor, refl, sym, ap, ◌∙◌, subst, arith, lit<}
use Rattle.std.proofs.lemmas.Bool.{eqb-true, or_cases}
use Rattle.std.proofs.Math.Nat.{mul_comm}
use Rattle.clay_field.specs.Field.{sum_of_copies, remainder, product, power_of}
use Rattle.clay_field.proofs.FieldLaws.{all_below, all_below_at, product_comm, product_assoc, product_one, one_product, power_of-lt}

pub power_of-suc : (a e : ℕ) → power_of a (suc e) ≡ product a (power_of a e)
unfolding power_of
power_of-suc a e = refl

pub power_of-add : (a m n : ℕ) → power_of a (m + n) ≡ product (power_of a m) (power_of a n)
unfolding power_of
power_of-add a zero n =
    let none : zero + n ≡ n = omega arith in
    ap (power_of a) none ∙ sym (one_product (power_of a n) (power_of-lt a n))
power_of-add a (suc m) n =
    let more : suc m + n ≡ suc (m + n) = omega arith in
    ap (power_of a) more
    ∙ power_of-suc a (m + n)
    ∙ ap (product a) (power_of-add a m n)
    ∙ sym (product_assoc a (power_of a m) (power_of a n))

-- the factors of two pairs, exchanged
pub product_swap_pairs : (a b c d : ℕ) → product (product a b) (product c d) ≡ product (product a c) (product b d)
product_swap_pairs a b c d =
    product_assoc a b (product c d)
    ∙ ap (product a) (sym (product_assoc b c d) ∙ ap (λ x. product x d) (product_comm b c) ∙ product_assoc c b d)
    ∙ sym (product_assoc a c (product b d))

pub power_of-product : (a b n : ℕ) → power_of (product a b) n ≡ product (power_of a n) (power_of b n)
unfolding power_of
power_of-product a b zero = sym (product_one 1 (lit< tt))
power_of-product a b (suc n) =
    ap (product (product a b)) (power_of-product a b n) ∙ product_swap_pairs a b (power_of a n) (power_of b n)

pub one_power : (n : ℕ) → power_of 1 n ≡ 1
unfolding power_of
one_power zero = refl
one_power (suc n) = ap (product 1) (one_power n) ∙ product_one 1 (lit< tt)

pub power_of-power : (a m n : ℕ) → power_of (power_of a m) n ≡ power_of a (m * n)
unfolding power_of
power_of-power a zero n =
    let none : 0 ≡ zero * n = omega arith in
    one_power n ∙ ap (power_of a) none
power_of-power a (suc m) n =
    let more : n + m * n ≡ suc m * n = omega arith in
    power_of-product a (power_of a m) n
    ∙ ap (product (power_of a n)) (power_of-power a m n)
    ∙ sym (power_of-add a n (m * n))
    ∙ ap (power_of a) more

-- one bit of the exponent
pub power_of-even : (a h : ℕ) → power_of (product a a) h ≡ power_of a (h + h)
power_of-even a h = power_of-product a a h ∙ sym (power_of-add a h h)

pub power_of-bit_zero : (d s n : ℕ) → n % 2 ≡ 0 → product d (power_of (product s s) (n / 2)) ≡ product d (power_of s n)
power_of-bit_zero d s n even =
    let halves : n / 2 + n / 2 ≡ n = omega arith in
    ap (product d) (power_of-even s (n / 2) ∙ ap (power_of s) halves)

pub power_of-bit_one : (d s n : ℕ) → n % 2 ≡ 1 → product (product d s) (power_of (product s s) (n / 2)) ≡ product d (power_of s n)
power_of-bit_one d s n odd =
    let halves : suc (n / 2 + n / 2) ≡ n = omega arith in
    product_assoc d s (power_of (product s s) (n / 2))
    ∙ ap (product d) (ap (product s) (power_of-even s (n / 2)) ∙ sym (power_of-suc s (n / 2 + n / 2)) ∙ ap (power_of s) halves)

-- ---- the powers of 2

-- twice a byte, cheaper to compute than the product
double : ℕ → ℕ
double a = cond (ltb a 128) (2 * a) (bit_xor (2 * a) 0x11D)

all_double : all_below 256 (λ a. eqb (double a) (product 2 a)) ≡ true
unfolding double product remainder sum_of_copies
all_double = refl

double-is : (a : ℕ) → a < 2 ^ 8 → double a ≡ product 2 a
double-is a h = eqb-true _ _ (all_below_at 256 (λ a. eqb (double a) (product 2 a)) all_double a h)

-- a is one of the n numbers that begin at x and double each time
reaches : ℕ → ℕ → ℕ → Bool
reaches zero x a = false
reaches (suc n) x a = eqb x a || reaches n (double x) a

exponent : (n i a : ℕ) → reaches n (power_of 2 i) a ≡ true → (e : ℕ) × (e < i + n) × (power_of 2 e ≡ a)
unfolding reaches
exponent zero i a r = cc
exponent (suc n) i a r =
    elim (or_cases (eqb (power_of 2 i) a) _ r) [
      | inl here ↦ (i, omega arith, eqb-true _ _ here)
      | inr later ↦
          let next : double (power_of 2 i) ≡ power_of 2 (suc i) = double-is (power_of 2 i) (power_of-lt 2 i) ∙ sym (power_of-suc 2 i) in
          let found = exponent n (suc i) a (subst (λ x. reaches n x a ≡ true) next later) in
          (found.0, omega (arith, found.1), found.2)
    ]

reached : ℕ → Bool
reached a = eqb a 0 || reaches 255 1 a

all_reached : all_below 256 reached ≡ true
unfolding reached reaches double
all_reached = refl

pub logarithm : (a : ℕ) → a < 2 ^ 8 → (a ≡ 0 → ⊥) → (e : ℕ) × (e < 255) × (power_of 2 e ≡ a)
unfolding reached power_of
logarithm a h nonzero =
    elim (or_cases (eqb a 0) _ (all_below_at 256 reached all_reached a h)) [
      | inl is_zero ↦ absurd (nonzero (eqb-true a 0 is_zero))
      | inr found ↦ exponent 255 0 a found
    ]

pub power_of_two_255 : power_of 2 255 ≡ 1
unfolding power_of product remainder sum_of_copies
power_of_two_255 = refl

-- the number of nonzero bytes is a multiple of the order of each
pub power_of-255 : (a : ℕ) → a < 2 ^ 8 → (a ≡ 0 → ⊥) → power_of a 255 ≡ 1
power_of-255 a h nonzero =
    let log = logarithm a h nonzero in
    ap (λ x. power_of x 255) (sym log.2)
    ∙ power_of-power 2 log.0 255
    ∙ ap (power_of 2) (mul_comm log.0 255)
    ∙ sym (power_of-power 2 255 log.0)
    ∙ ap (λ x. power_of x log.0) power_of_two_255
    ∙ one_power log.0

-- Remainders of sums, of shifted dividends, and in several steps.
use Rattle.std.proofs.Common.{◌≡◌, ℕ, zero, suc, ◌+◌, ◌*◌, ◌/◌, ◌%◌, ◌^◌, ◌<◌, ◌⊎◌, inl, inr, List, [], ◌∷◌, ◌++◌, length, refl, sym, ap, ◌∙◌, arith, bit_xor}
use Rattle.std.proofs.lemmas.Nat.{xor_comm, xor_shr, xor_mod, xor_block, pow_pos, pow-add, shr_split, mod_below}
use Rattle.std.proofs.lemmas.List.{length-append}
use Rattle.std.proofs.Math.Nat.{mul_assoc, pow-suc}
use lib.Bits.{xor_assoc, xor_zero_r, xor_shifted}
use Rattle.crc64.specs.Remainder.{generator, reduced, remainder, polynomial, after}

pub xor_swap : (a b c d : ℕ) → bit_xor (bit_xor a b) (bit_xor c d) ≡ bit_xor (bit_xor a c) (bit_xor b d)
xor_swap a b c d =
    xor_assoc a b (bit_xor c d)
    ∙ ap (bit_xor a) (sym (xor_assoc b c d) ∙ ap (λ x. bit_xor x d) (xor_comm b c) ∙ xor_assoc c b d)
    ∙ sym (xor_assoc a c (bit_xor b d))

pub xor_mul_pow : (a b k : ℕ) → bit_xor (a * 2 ^ k) (b * 2 ^ k) ≡ bit_xor a b * 2 ^ k
xor_mul_pow a b k =
    ap (λ x. bit_xor x (b * 2 ^ k)) (omega arith)
    ∙ ap (bit_xor (a * 2 ^ k + 0)) (omega arith)
    ∙ xor_block k a b 0 0 (pow_pos k) (pow_pos k)
    ∙ omega arith

bit_cases : (t : ℕ) → t < 2 → (t ≡ 0) ⊎ (t ≡ 1)
bit_cases t h = grind arith

-- a multiple of the generator by a bit, of a sum of bits
multiple_of_sum : (s t : ℕ) → (s ≡ 0) ⊎ (s ≡ 1) → (t ≡ 0) ⊎ (t ≡ 1) → generator * bit_xor s t ≡ bit_xor (generator * s) (generator * t)
multiple_of_sum s t (inl p) (inl q) = rw (p, q) refl
multiple_of_sum s t (inl p) (inr q) = rw (p, q) refl
multiple_of_sum s t (inr p) (inl q) = rw (p, q) refl
multiple_of_sum s t (inr p) (inr q) = rw (p, q) refl

pub reduced_sum : (a b : ℕ) → reduced (bit_xor a b) ≡ bit_xor (reduced a) (reduced b)
reduced_sum a b =
    let low : bit_xor a b % 2 ≡ bit_xor (a % 2) (b % 2) = xor_mod a b 1 in
    let all : generator * (bit_xor a b % 2) ≡ bit_xor (generator * (a % 2)) (generator * (b % 2)) =
    ap (λ x. generator * x) low
    ∙ multiple_of_sum (a % 2) (b % 2) (bit_cases (a % 2) (omega arith)) (bit_cases (b % 2) (omega arith)) in
    ap (λ x. bit_xor (bit_xor a b) x / 2) all
    ∙ ap (λ x. x / 2) (xor_swap a b (generator * (a % 2)) (generator * (b % 2)))
    ∙ xor_shr (bit_xor a (generator * (a % 2))) (bit_xor b (generator * (b % 2))) 1

pub remainder_sum : (n a b : ℕ) → remainder n (bit_xor a b) ≡ bit_xor (remainder n a) (remainder n b)
unfolding remainder
remainder_sum zero a b = refl
remainder_sum (suc n) a b = ap (remainder n) (reduced_sum a b) ∙ remainder_sum n (reduced a) (reduced b)

pub reduced_even : (a : ℕ) → reduced (a * 2) ≡ a
reduced_even a =
    let even : a * 2 % 2 ≡ 0 = omega arith in
    let none : bit_xor (a * 2) (generator * (a * 2 % 2)) ≡ a * 2 = ap (λ x. bit_xor (a * 2) (generator * x)) even ∙ xor_zero_r (a * 2) in
    ap (λ x. x / 2) none ∙ omega arith

-- coefficients 0 are dropped
pub remainder_shifted : (n a : ℕ) → remainder n (a * 2 ^ n) ≡ a
unfolding remainder
remainder_shifted zero a = omega arith
remainder_shifted (suc n) a =
    let e : a * 2 ^ suc n ≡ a * 2 ^ n * 2 = ap (λ v. a * v) (pow-suc 2 n) ∙ sym (mul_assoc a (2 ^ n) 2) in
    ap (remainder n) (ap reduced e ∙ reduced_even (a * 2 ^ n)) ∙ remainder_shifted n a

pub remainder_then : (m n a : ℕ) → remainder (m + n) a ≡ remainder n (remainder m a)
unfolding remainder
remainder_then zero n a = let e : zero + n ≡ n = omega arith in ap (λ x. remainder x a) e
remainder_then (suc m) n a =
    let e : suc m + n ≡ suc (m + n) = omega arith in
    ap (λ x. remainder x a) e ∙ remainder_then m n (reduced a)

pub remainder_zero : (n : ℕ) → remainder n 0 ≡ 0
remainder_zero n =
    let e : 0 * 2 ^ n ≡ 0 = omega arith in
    ap (remainder n) (sym e) ∙ remainder_shifted n 0

-- more steps over a shifted dividend
pub remainder_past : (m n a : ℕ) → remainder (m + n) (a * 2 ^ m) ≡ remainder n a
remainder_past m n a = remainder_then m n (a * 2 ^ m) ∙ ap (remainder n) (remainder_shifted m a)

-- ---- messages in pieces

pub polynomial_append : (xs ys : List ℕ) → polynomial (xs ++ ys) ≡ bit_xor (polynomial xs) (polynomial ys * 2 ^ (8 * length xs))
unfolding polynomial
polynomial_append [] ys =
    let e : polynomial ys * 2 ^ (8 * 0) ≡ polynomial ys = omega arith in
    sym (xor_comm 0 _ ∙ xor_zero_r _ ∙ e)
polynomial_append (x ∷ xs) ys =
    let p : 2 ^ (8 * suc (length xs)) ≡ 2 ^ (8 * length xs) * 2 ^ 8 = ap (λ n. 2 ^ n) (omega arith) ∙ pow-add 2 (8 * length xs) 8 in
    let last : polynomial ys * 2 ^ (8 * length xs) * 2 ^ 8 ≡ polynomial ys * 2 ^ (8 * suc (length xs)) =
    sym (ap (λ v. polynomial ys * v) p ∙ sym (mul_assoc (polynomial ys) (2 ^ (8 * length xs)) (2 ^ 8))) in
    ap (λ v. bit_xor x (v * 2 ^ 8)) (polynomial_append xs ys)
    ∙ ap (bit_xor x) (sym (xor_mul_pow (polynomial xs) (polynomial ys * 2 ^ (8 * length xs)) 8))
    ∙ sym (xor_assoc x (polynomial xs * 2 ^ 8) _)
    ∙ ap (bit_xor (bit_xor x (polynomial xs * 2 ^ 8))) last

-- the remainder of a message goes on from that of its first part
pub after_append : (register : ℕ) (xs ys : List ℕ) → after register (xs ++ ys) ≡ after (after register xs) ys
after_append register xs ys =
    let n : ℕ = 8 * length xs in
    let steps : 8 * length (xs ++ ys) ≡ n + 8 * length ys = ap (λ k. 8 * k) (length-append xs ys) ∙ omega arith in
    ap (λ k. remainder k (bit_xor register (polynomial (xs ++ ys)))) steps
    ∙ remainder_then n (8 * length ys) (bit_xor register (polynomial (xs ++ ys)))
    ∙ ap (remainder (8 * length ys))
    (ap (λ v. remainder n (bit_xor register v)) (polynomial_append xs ys)
    ∙ ap (remainder n) (sym (xor_assoc register (polynomial xs) _))
    ∙ remainder_sum n (bit_xor register (polynomial xs)) (polynomial ys * 2 ^ n)
    ∙ ap (bit_xor (after register xs)) (remainder_shifted n (polynomial ys)))

-- ---- one step, and one byte

pub remainder_none : (a : ℕ) → remainder 0 a ≡ a
unfolding remainder
remainder_none a = refl

pub remainder_one : (n a : ℕ) → remainder (n + 1) a ≡ reduced (remainder n a)
unfolding remainder
remainder_one n a = remainder_then n 1 a

pub reduced_at_one : (a : ℕ) → a % 2 ≡ 1 → bit_xor (a / 2) 0xC96C5795D7870F42 ≡ reduced a
reduced_at_one a odd = sym (xor_shr a (generator * (a % 2)) 1 ∙ ap (λ t. bit_xor (a / 2) (generator * t / 2)) odd)

-- eight steps look at the lowest byte alone
pub remainder_byte : (a : ℕ) → bit_xor (remainder 8 (a % 2 ^ 8)) (a / 2 ^ 8) ≡ remainder 8 a
remainder_byte a =
    let split : bit_xor (a % 2 ^ 8) (a / 2 ^ 8 * 2 ^ 8) ≡ a =
    xor_comm (a % 2 ^ 8) (a / 2 ^ 8 * 2 ^ 8) ∙ xor_shifted (a / 2 ^ 8) 8 (a % 2 ^ 8) (mod_below a (2 ^ 8) (pow_pos 8)) ∙ shr_split a 8 in
    ap (bit_xor (remainder 8 (a % 2 ^ 8))) (sym (remainder_shifted 8 (a / 2 ^ 8)))
    ∙ sym (remainder_sum 8 (a % 2 ^ 8) (a / 2 ^ 8 * 2 ^ 8))
    ∙ ap (remainder 8) split

pub after_none : (register : ℕ) → after register [] ≡ register
unfolding polynomial
after_none register = remainder_none _ ∙ xor_zero_r register

pub after_byte : (register byte : ℕ) → byte < 2 ^ 8 → bit_xor (remainder 8 (bit_xor register byte % 2 ^ 8)) (register / 2 ^ 8) ≡ after register (byte ∷ [])
unfolding polynomial
after_byte register byte h =
    let high : bit_xor register byte / 2 ^ 8 ≡ register / 2 ^ 8 =
    xor_shr register byte 8 ∙ ap (bit_xor (register / 2 ^ 8)) (omega arith) ∙ xor_zero_r (register / 2 ^ 8) in
    ap (bit_xor (remainder 8 (bit_xor register byte % 2 ^ 8))) (sym high)
    ∙ remainder_byte (bit_xor register byte)
    ∙ ap (λ v. remainder 8 (bit_xor register v)) (sym (xor_zero_r byte))

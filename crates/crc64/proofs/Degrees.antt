-- The degrees of remainders, and that they are what a division leaves.
use Rattle.std.proofs.Common.{◌≡◌, ℕ, zero, suc, ◌+◌, ◌*◌, ◌/◌, ◌%◌, ◌^◌, ◌<◌, ◌≤◌, ◌⊎◌, inl, inr, List, [], ◌∷◌, length, get_or, refl, sym, ap, ◌∙◌, subst, arith, bit_xor}
use Rattle.std.proofs.lemmas.Nat.{xor_lt, xor_mod, shl_below, shr_below}
use Rattle.std.proofs.Math.Nat.{mul_assoc, pow-suc, pow-le-pow_right}
use lib.Bits.{xor_assoc, xor_zero_r}
use Rattle.crc64.specs.Remainder.{generator, reduced, remainder, polynomial, after, ones, checksum_of}
use Rattle.crc64.specs.Division.{multiple, IsRemainder}
use Rattle.crc64.proofs.Division.{xor_mul_pow}

pub wider : (a j k : ℕ) → j ≤ k → a < 2 ^ j → a < 2 ^ k
wider a j k more less = let h : 2 ^ j ≤ 2 ^ k = pow-le-pow_right {n = 2} (omega arith) {i = j} {j = k} more in omega arith

bit_below : (a : ℕ) → (a % 2 ≡ 0) ⊎ (a % 2 ≡ 1)
bit_below a = grind arith

-- no copy of the generator reaches beyond 65 coefficients
copy_below : (t : ℕ) → (t ≡ 0) ⊎ (t ≡ 1) → generator * t < 2 ^ 65
copy_below t (inl none) = subst (λ v. generator * v < 2 ^ 65) (sym none) (omega arith)
copy_below t (inr one) = subst (λ v. generator * v < 2 ^ 65) (sym one) (omega arith)

pub remainder_below : (n a : ℕ) → a < 2 ^ (64 + n) → remainder n a < 2 ^ 64
unfolding remainder
remainder_below zero a less = less
remainder_below (suc n) a less =
    let k : ℕ = 64 + n in
    let one_more : 64 + suc n ≡ k + 1 = omega arith in
    let dividend : a < 2 ^ (k + 1) = subst (λ v. a < 2 ^ v) one_more less in
    let copy : generator * (a % 2) < 2 ^ (k + 1) =
    wider (generator * (a % 2)) 65 (k + 1) (omega arith) (copy_below (a % 2) (bit_below a)) in
    remainder_below n (reduced a) (shr_below (bit_xor a (generator * (a % 2))) k 1 (xor_lt (k + 1) a (generator * (a % 2)) dividend copy))

pub polynomial_below : (bytes : List ℕ) → ((i : ℕ) → get_or bytes i 0 < 2 ^ 8) → polynomial bytes < 2 ^ (8 * length bytes)
unfolding polynomial
polynomial_below [] small = omega arith
polynomial_below (byte ∷ bytes) small =
    let n : ℕ = 8 * length bytes in
    let long : 8 * length (byte ∷ bytes) ≡ n + 8 = omega arith in
    let rest : polynomial bytes * 2 ^ 8 < 2 ^ (n + 8) = shl_below (polynomial bytes) n 8 (polynomial_below bytes (λ i. small (suc i))) in
    subst (λ v. bit_xor byte (polynomial bytes * 2 ^ 8) < 2 ^ v) (sym long)
    (xor_lt (n + 8) byte (polynomial bytes * 2 ^ 8) (wider byte 8 (n + 8) (omega arith) (small 0)) rest)

pub checksum_below : (bytes : List ℕ) → ((i : ℕ) → get_or bytes i 0 < 2 ^ 8) → checksum_of bytes < 2 ^ 64
checksum_below bytes small =
    let n : ℕ = 8 * length bytes in
    let all : ones < 2 ^ 64 = omega arith in
    let dividend : bit_xor ones (polynomial bytes) < 2 ^ (64 + n) =
    xor_lt (64 + n) ones (polynomial bytes) (wider ones 64 (64 + n) (omega arith) all)
    (wider (polynomial bytes) n (64 + n) (omega arith) (polynomial_below bytes small)) in
    xor_lt 64 (after ones bytes) ones (remainder_below n (bit_xor ones (polynomial bytes)) dividend) all

-- a step adds a copy of the generator, and drops a coefficient 0
odd_copy : (t : ℕ) → (t ≡ 0) ⊎ (t ≡ 1) → bit_xor t (generator * t % 2) ≡ 0
odd_copy t (inl none) = rw none refl
odd_copy t (inr one) = rw one refl

reduced_twice : (a : ℕ) → bit_xor a (generator * (a % 2)) ≡ reduced a * 2
reduced_twice a =
    let sum : ℕ = bit_xor a (generator * (a % 2)) in
    let even : sum % 2 ≡ 0 = xor_mod a (generator * (a % 2)) 1 ∙ odd_copy (a % 2) (bit_below a) in
    omega (arith, even)

pub remainder_is : (n a : ℕ) → IsRemainder n a (remainder n a)
unfolding remainder multiple
remainder_is zero a = record { quotient = 0; sum = xor_zero_r a ∙ omega arith }
remainder_is (suc n) a =
    let rest = remainder_is n (reduced a) in
    let bit : ℕ = a % 2 in
    let q : ℕ = rest.quotient in
    let low : (bit + q * 2) % 2 ≡ bit = omega arith in
    let high : (bit + q * 2) / 2 ≡ q = omega arith in
    let last : remainder n (reduced a) * 2 ^ n * 2 ≡ remainder n (reduced a) * 2 ^ suc n =
    mul_assoc (remainder n (reduced a)) (2 ^ n) 2 ∙ ap (λ v. remainder n (reduced a) * v) (sym (pow-suc 2 n)) in
    record {
      quotient = bit + q * 2;
      sum =
          (λ i. bit_xor a (bit_xor (generator * low i) (multiple n (high i) * 2)))
          ∙ sym (xor_assoc a (generator * bit) (multiple n q * 2))
          ∙ ap (λ v. bit_xor v (multiple n q * 2)) (reduced_twice a)
          ∙ xor_mul_pow (reduced a) (multiple n q) 1
          ∙ ap (λ v. v * 2) rest.sum
          ∙ last;
    }

-- Bursts change the remainder.
use Rattle.std.proofs.Common.{◌≡◌, ℕ, zero, suc, ◌+◌, ◌-◌, ◌*◌, ◌/◌, ◌%◌, ◌^◌, ◌<◌, ◌≤◌, ◌⊎◌, inl, inr, List, length, sym, ap, ◌∙◌, subst, arith, bit_xor}
use Rattle.std.proofs.lemmas.Nat.{xor_comm, xor_shr}
use lib.Bits.{xor_assoc, xor_self, xor_zero_r}
use Rattle.crc64.specs.Remainder.{generator, reduced, remainder, polynomial, after, ones, checksum_of}
use Rattle.crc64.proofs.Division.{remainder_sum, remainder_past}
use Rattle.crc64.proofs.Degrees.{remainder_below}

bit_below : (a : ℕ) → (a % 2 ≡ 0) ⊎ (a % 2 ≡ 1)
bit_below a = grind arith

-- a step leaves no zero of a polynomial below the generator's degree
reduced_pos : (a : ℕ) → 0 < a → a < 2 ^ 64 → (a % 2 ≡ 0) ⊎ (a % 2 ≡ 1) → 0 < reduced a
reduced_pos a pos less (inl even) =
    let same : reduced a ≡ a / 2 = ap (λ t. bit_xor a (generator * t) / 2) even ∙ ap (λ v. v / 2) (xor_zero_r a) in
    subst (λ v. 0 < v) (sym same) (omega arith)
reduced_pos a pos less (inr odd) =
    let sum : ℕ = bit_xor a generator in
    let none : a / 2 ^ 64 ≡ 0 = omega arith in
    let high : sum / 2 ^ 64 ≡ 1 = xor_shr a generator 64 ∙ ap (λ v. bit_xor v (generator / 2 ^ 64)) none in
    let same : reduced a ≡ sum / 2 = ap (λ t. bit_xor a (generator * t) / 2) odd in
    subst (λ v. 0 < v) (sym same) (omega (arith, high))

reduced_below : (a : ℕ) → a < 2 ^ 64 → reduced a < 2 ^ 64
unfolding remainder
reduced_below a less = remainder_below 1 a (omega arith)

remainder_pos : (n a : ℕ) → 0 < a → a < 2 ^ 64 → 0 < remainder n a
unfolding remainder
remainder_pos zero a pos less = pos
remainder_pos (suc n) a pos less = remainder_pos n (reduced a) (reduced_pos a pos less (bit_below a)) (reduced_below a less)

xor_back : (a b : ℕ) → bit_xor (bit_xor a b) b ≡ a
xor_back a b = xor_assoc a b b ∙ ap (bit_xor a) (xor_self b) ∙ xor_zero_r a

pub burst_found : (message other : List ℕ) (start burst : ℕ) → length message ≡ length other → start ≤ 8 * length other
    → 0 < burst → burst < 2 ^ 64 → polynomial message ≡ bit_xor (polynomial other) (burst * 2 ^ start)
    → checksum_of message ≡ checksum_of other → ⊥
burst_found message other start burst long within pos less differs same =
    let n : ℕ = 8 * length other in
    let rest : ℕ = remainder (n - start) burst in
    let change : ℕ = burst * 2 ^ start in
    let steps : start + (n - start) ≡ n = omega arith in
    let left : remainder n change ≡ rest = ap (λ k. remainder k change) (sym steps) ∙ remainder_past start (n - start) burst in
    let changed : after ones message ≡ bit_xor (after ones other) rest =
    ap (λ k. remainder (8 * k) (bit_xor ones (polynomial message))) long
    ∙ ap (remainder n) (ap (bit_xor ones) differs ∙ sym (xor_assoc ones (polynomial other) change))
    ∙ remainder_sum n (bit_xor ones (polynomial other)) change
    ∙ ap (bit_xor (after ones other)) left in
    let equal : after ones message ≡ after ones other =
    sym (xor_back (after ones message) ones) ∙ ap (λ v. bit_xor v ones) same ∙ xor_back (after ones other) ones in
    let none : rest ≡ 0 =
    sym (xor_back rest (after ones other))
    ∙ ap (λ v. bit_xor v (after ones other)) (xor_comm rest (after ones other) ∙ sym changed ∙ equal)
    ∙ xor_self (after ones other) in
    let some : 0 < rest = remainder_pos (n - start) burst pos less in
    omega (arith, none, some)

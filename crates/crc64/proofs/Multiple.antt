-- A multiple of the generator with few coefficients, and the remainders of its own multiples.
use Rattle.std.proofs.Common.{◌≡◌, ℕ, zero, suc, ◌+◌, ◌*◌, ◌/◌, ◌%◌, ◌^◌, ◌<◌, ◌⊎◌, inl, inr, List, [], ◌∷◌, refl, sym, ap, ◌∙◌, arith, bit_xor}
use Rattle.std.proofs.lemmas.Nat.{xor_comm}
use Rattle.std.proofs.Math.Nat.{mul_assoc, mul_comm, pow-suc}
use lib.Bits.{xor_shifted}
use Rattle.crc64.specs.Remainder.{remainder}
use Rattle.crc64.specs.Folding.{span, gaps}
use Rattle.crc64.proofs.Division.{xor_swap, xor_mul_pow, remainder_sum, remainder_then, remainder_zero, remainder_past}

-- a dividend's copies, one at each gap
unfoldable pub copies : List ℕ → ℕ → ℕ
copies [] q = 0
copies (gap ∷ gaps) q = bit_xor (copies gaps q) (q * 2 ^ (8 * gap))

-- its product with the multiple
abbrev pub spread : ℕ → ℕ
spread q = bit_xor q (copies gaps q)

copies_none : (gs : List ℕ) → copies gs 0 ≡ 0
unfolding copies
copies_none [] = refl
copies_none (g ∷ gs) =
    let none : 0 * 2 ^ (8 * g) ≡ 0 = omega arith in
    (λ i. bit_xor (copies_none gs i) (none i))

copies_sum : (gs : List ℕ) (a b : ℕ) → copies gs (bit_xor a b) ≡ bit_xor (copies gs a) (copies gs b)
unfolding copies
copies_sum [] a b = refl
copies_sum (g ∷ gs) a b =
    (λ i. bit_xor (copies_sum gs a b i) (sym (xor_mul_pow a b (8 * g)) i))
    ∙ xor_swap (copies gs a) (copies gs b) (a * 2 ^ (8 * g)) (b * 2 ^ (8 * g))

copies_twice : (gs : List ℕ) (a : ℕ) → copies gs (a * 2 ^ 1) ≡ copies gs a * 2 ^ 1
unfolding copies
copies_twice [] a = refl
copies_twice (g ∷ gs) a =
    let moved : a * 2 ^ 1 * 2 ^ (8 * g) ≡ a * 2 ^ (8 * g) * 2 ^ 1 =
    mul_assoc a (2 ^ 1) (2 ^ (8 * g)) ∙ ap (λ v. a * v) (mul_comm (2 ^ 1) (2 ^ (8 * g))) ∙ sym (mul_assoc a (2 ^ (8 * g)) (2 ^ 1)) in
    (λ i. bit_xor (copies_twice gs a i) (moved i)) ∙ xor_mul_pow (copies gs a) (a * 2 ^ (8 * g)) 1

spread_none : spread 0 ≡ 0
spread_none = ap (bit_xor 0) (copies_none gaps)

spread_sum : (a b : ℕ) → spread (bit_xor a b) ≡ bit_xor (spread a) (spread b)
spread_sum a b = ap (bit_xor (bit_xor a b)) (copies_sum gaps a b) ∙ xor_swap a b (copies gaps a) (copies gaps b)

spread_twice : (a : ℕ) → spread (a * 2 ^ 1) ≡ spread a * 2 ^ 1
spread_twice a = ap (bit_xor (a * 2 ^ 1)) (copies_twice gaps a) ∙ xor_mul_pow a (copies gaps a) 1

-- it is a multiple of the generator
is_multiple : remainder (8 * span) (spread 1) ≡ 0
unfolding remainder copies
is_multiple = refl

bit_vanishes : (n bit : ℕ) → (bit ≡ 0) ⊎ (bit ≡ 1) → remainder (8 * span + n) (spread bit) ≡ 0
bit_vanishes n bit (inl none) = ap (λ v. remainder (8 * span + n) (spread v)) none ∙ ap (remainder (8 * span + n)) spread_none ∙ remainder_zero (8 * span + n)
bit_vanishes n bit (inr one) =
    ap (λ v. remainder (8 * span + n) (spread v)) one ∙ remainder_then (8 * span) n (spread 1) ∙ ap (remainder n) is_multiple ∙ remainder_zero n

bit_cases : (a : ℕ) → (a % 2 ≡ 0) ⊎ (a % 2 ≡ 1)
bit_cases a = grind arith

-- a product with it leaves nothing
pub vanishes : (n q : ℕ) → q < 2 ^ n → remainder (8 * span + n) (spread q) ≡ 0
vanishes zero q less =
    let none : q ≡ 0 = omega arith in
    bit_vanishes 0 q (inl none)
vanishes (suc n) q less =
    let bit : ℕ = q % 2 in
    let rest : ℕ = q / 2 in
    let power : 2 ^ suc n ≡ 2 ^ n * 2 = pow-suc 2 n in
    let small : rest < 2 ^ n = omega (arith, power, less) in
    let bit_small : bit < 2 ^ 1 = omega arith in
    let whole : rest * 2 ^ 1 + bit ≡ q = omega arith in
    let parts : q ≡ bit_xor bit (rest * 2 ^ 1) = sym (xor_comm bit (rest * 2 ^ 1) ∙ xor_shifted rest 1 bit bit_small ∙ whole) in
    let steps : 8 * span + suc n ≡ 1 + (8 * span + n) = omega arith in
    let rests : remainder (8 * span + suc n) (spread rest * 2 ^ 1) ≡ 0 =
    ap (λ k. remainder k (spread rest * 2 ^ 1)) steps ∙ remainder_past 1 (8 * span + n) (spread rest) ∙ vanishes n rest small in
    ap (λ v. remainder (8 * span + suc n) (spread v)) parts
    ∙ ap (remainder (8 * span + suc n)) (spread_sum bit (rest * 2 ^ 1) ∙ ap (bit_xor (spread bit)) (spread_twice rest))
    ∙ remainder_sum (8 * span + suc n) (spread bit) (spread rest * 2 ^ 1)
    ∙ (λ i. bit_xor (bit_vanishes (suc n) bit (bit_cases q) i) (rests i))

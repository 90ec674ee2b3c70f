-- Polynomials of bytes that are given by their places.
use Rattle.std.proofs.Common.{◌≡◌, ℕ, zero, suc, ◌+◌, ◌*◌, ◌/◌, ◌%◌, ◌^◌, ◌<◌, List, [], ◌∷◌, length, get_or, refl, sym, ap, ◌∙◌, arith, bit_xor}
use Rattle.std.proofs.lemmas.Nat.{xor_comm, xor_lt, shl_below, pow-add, mod-pow-add, mod_below}
use Rattle.std.proofs.Math.Nat.{mul_assoc, div-div-eq-div-mul}
use lib.Bits.{xor_assoc, xor_zero_r, xor_shifted}
use Rattle.crc64.specs.Remainder.{polynomial}
use Rattle.crc64.proofs.Division.{xor_swap, xor_mul_pow}
use Rattle.crc64.proofs.Degrees.{wider}

-- the polynomial of the first n bytes
unfoldable pub placed : (ℕ → ℕ) → ℕ → ℕ
placed byte zero = 0
placed byte (suc n) = bit_xor (byte 0) (placed (λ i. byte (suc i)) n * 2 ^ 8)

pub placed_same : (f g : ℕ → ℕ) (n : ℕ) → ((i : ℕ) → i < n → f i ≡ g i) → placed f n ≡ placed g n
unfolding placed
placed_same f g zero same = refl
placed_same f g (suc n) same =
    let rest : placed (λ i. f (suc i)) n ≡ placed (λ i. g (suc i)) n = placed_same (λ i. f (suc i)) (λ i. g (suc i)) n (λ i less. same (suc i) (omega arith)) in
    let first : f 0 ≡ g 0 = same 0 (omega arith) in
    (λ i. bit_xor (first i) (rest i * 2 ^ 8))

pub placed_sum : (f g : ℕ → ℕ) (n : ℕ) → placed (λ i. bit_xor (f i) (g i)) n ≡ bit_xor (placed f n) (placed g n)
unfolding placed
placed_sum f g zero = refl
placed_sum f g (suc n) =
    let a : ℕ = placed (λ i. f (suc i)) n in
    let b : ℕ = placed (λ i. g (suc i)) n in
    ap (λ v. bit_xor (bit_xor (f 0) (g 0)) (v * 2 ^ 8)) (placed_sum (λ i. f (suc i)) (λ i. g (suc i)) n)
    ∙ ap (bit_xor (bit_xor (f 0) (g 0))) (sym (xor_mul_pow a b 8))
    ∙ xor_swap (f 0) (g 0) (a * 2 ^ 8) (b * 2 ^ 8)

pub placed_none : (f : ℕ → ℕ) (n : ℕ) → ((i : ℕ) → i < n → f i ≡ 0) → placed f n ≡ 0
unfolding placed
placed_none f zero none = refl
placed_none f (suc n) none =
    let first : f 0 ≡ 0 = none 0 (omega arith) in
    let rest : placed (λ i. f (suc i)) n ≡ 0 = placed_none (λ i. f (suc i)) n (λ i less. none (suc i) (omega arith)) in
    (λ i. bit_xor (first i) (rest i * 2 ^ 8))

pub placed_split : (f : ℕ → ℕ) (a b : ℕ) → placed f (a + b) ≡ bit_xor (placed f a) (placed (λ i. f (a + i)) b * 2 ^ (8 * a))
unfolding placed
placed_split f zero b =
    let same : placed (λ i. f (zero + i)) b ≡ placed f b = placed_same (λ i. f (zero + i)) f b (λ i less. ap f (omega arith)) in
    let all : placed (λ i. f (zero + i)) b * 2 ^ (8 * 0) ≡ placed f b = omega (arith, same) in
    let none : zero + b ≡ b = omega arith in
    sym (xor_comm 0 _ ∙ xor_zero_r _ ∙ all ∙ ap (placed f) (sym none))
placed_split f (suc a) b =
    let sum : suc a + b ≡ suc (a + b) = omega arith in
    let more : ℕ → ℕ = λ i. f (suc i) in
    let low : ℕ = placed more a in
    let high : ℕ = placed (λ i. f (suc (a + i))) b in
    let moved : placed (λ i. f (suc a + i)) b ≡ high =
    placed_same (λ i. f (suc a + i)) (λ i. f (suc (a + i))) b (λ i less. ap f (omega arith)) in
    let power : 2 ^ (8 * suc a) ≡ 2 ^ (8 * a) * 2 ^ 8 = ap (λ n. 2 ^ n) (omega arith) ∙ pow-add 2 (8 * a) 8 in
    let last : high * 2 ^ (8 * a) * 2 ^ 8 ≡ placed (λ i. f (suc a + i)) b * 2 ^ (8 * suc a) =
    sym (ap (λ v. v * 2 ^ (8 * suc a)) moved ∙ ap (λ v. high * v) power ∙ sym (mul_assoc high (2 ^ (8 * a)) (2 ^ 8))) in
    ap (placed f) sum
    ∙ ap (λ v. bit_xor (f 0) (v * 2 ^ 8)) (placed_split more a b)
    ∙ ap (bit_xor (f 0)) (sym (xor_mul_pow low (high * 2 ^ (8 * a)) 8))
    ∙ sym (xor_assoc (f 0) (low * 2 ^ 8) (high * 2 ^ (8 * a) * 2 ^ 8))
    ∙ ap (bit_xor (bit_xor (f 0) (low * 2 ^ 8))) last

pub placed_list : (bytes : List ℕ) → polynomial bytes ≡ placed (λ i. get_or bytes i 0) (length bytes)
unfolding placed polynomial
placed_list [] = refl
placed_list (byte ∷ bytes) = ap (λ v. bit_xor byte (v * 2 ^ 8)) (placed_list bytes)

pub placed_below : (f : ℕ → ℕ) (n : ℕ) → ((i : ℕ) → f i < 2 ^ 8) → placed f n < 2 ^ (8 * n)
unfolding placed
placed_below f zero small = omega arith
placed_below f (suc n) small =
    let rest : ℕ = placed (λ i. f (suc i)) n in
    let first : f 0 < 2 ^ (8 * suc n) = wider (f 0) 8 (8 * suc n) (omega arith) (small 0) in
    let shifted : rest * 2 ^ 8 < 2 ^ (8 * n + 8) = shl_below rest (8 * n) 8 (placed_below (λ i. f (suc i)) n (λ i. small (suc i))) in
    xor_lt (8 * suc n) (f 0) (rest * 2 ^ 8) first (wider (rest * 2 ^ 8) (8 * n + 8) (8 * suc n) (omega arith) shifted)

-- a number by its bytes
pub placed_number : (r n : ℕ) → placed (λ i. r / 2 ^ (8 * i) % 2 ^ 8) n ≡ r % 2 ^ (8 * n)
unfolding placed
placed_number r zero = omega arith
placed_number r (suc n) =
    let low : ℕ = r % 2 ^ 8 in
    let first : r / 2 ^ (8 * 0) % 2 ^ 8 ≡ low = omega arith in
    let power : (i : ℕ) → 2 ^ 8 * 2 ^ (8 * i) ≡ 2 ^ (8 * suc i) = λ i. sym (ap (λ k. 2 ^ k) (omega arith) ∙ pow-add 2 8 (8 * i)) in
    let moved : placed (λ i. r / 2 ^ (8 * suc i) % 2 ^ 8) n ≡ placed (λ i. r / 2 ^ 8 / 2 ^ (8 * i) % 2 ^ 8) n =
    placed_same (λ i. r / 2 ^ (8 * suc i) % 2 ^ 8) (λ i. r / 2 ^ 8 / 2 ^ (8 * i) % 2 ^ 8) n
    (λ i less. ap (λ v. v % 2 ^ 8) (sym (div-div-eq-div-mul r (2 ^ 8) (2 ^ (8 * i)) ∙ ap (λ v. r / v) (power i)))) in
    let high : ℕ = r / 2 ^ 8 % 2 ^ (8 * n) in
    let steps : 8 * suc n ≡ 8 * n + 8 = omega arith in
    (λ i. bit_xor (first i) ((moved ∙ placed_number (r / 2 ^ 8) n) i * 2 ^ 8))
    ∙ xor_comm low (high * 2 ^ 8)
    ∙ xor_shifted high 8 low (mod_below r (2 ^ 8) (omega arith))
    ∙ sym (mod-pow-add r (8 * n) 8)
    ∙ ap (λ k. r % 2 ^ k) (sym steps)

-- What the operations on vectors of bytes hold at each lane.
use Rattle.std.proofs.Common.{◌≡◌, ℕ, ◌+◌, ◌*◌, ◌/◌, ◌%◌, ◌^◌, ◌<◌, List, length, get_or, replicate, refl, sym, ap, ◌∙◌, arith, w8, Fits, bit_and}
use Rattle.std.specs.Simd.Lanes.{zip2, Each1}
use Rattle.std.proofs.lemmas.Simd.{length-zip2, get_or-zip2, get_or-replicate, length-replicate, length-swz_l, get_or-swz_l_below, swz_l, SwzOk, SwzOk-from_below, Each1-from_get_or, Each1-get_or}
use Rattle.std.proofs.lemmas.Nat.{and_mask}
use Rattle.clay_kernels.specs.Lanes.{HasLanes}

-- an operator on two vectors
pub HasLanes-zip2 : (n : ℕ) (f : ℕ → ℕ → ℕ) (a b : List ℕ) → length a ≡ n → length b ≡ n → HasLanes n (zip2 f a b) (λ k. f (get_or a k 0) (get_or b k 0))
HasLanes-zip2 n f a b p q = record {
  long = length-zip2 f a b (p ∙ sym q) ∙ p;
  each = λ k l. get_or-zip2 f a b k 0 0 0 (omega arith) (omega arith);
}

-- an operator on a vector and a splat
pub HasLanes-splat : (n : ℕ) (f : ℕ → ℕ → ℕ) (a : List ℕ) (x : ℕ) → length a ≡ n → HasLanes n (zip2 f a (replicate n x)) (λ k. f (get_or a k 0) x)
HasLanes-splat n f a x p =
    let h = HasLanes-zip2 n f a (replicate n x) p (length-replicate n x) in
    record { long = h.long; each = λ k l. h.each k l ∙ ap (f (get_or a k 0)) (get_or-replicate n k x 0 l) }

-- the low four bits of each lane
pub HasLanes-low : (n : ℕ) (v : List ℕ) → length v ≡ n → HasLanes n (zip2 bit_and v (replicate n 15)) (λ k. get_or v k 0 % 16)
HasLanes-low n v long =
    let h = HasLanes-splat n bit_and v 15 long in
    record { long = h.long; each = λ k l. h.each k l ∙ and_mask (get_or v k 0) 4 }

-- the high four bits of each lane
pub HasLanes-high : (n : ℕ) (v : List ℕ) → length v ≡ n → HasLanes n (zip2 (λ a b. a / 2 ^ b) v (replicate n 4)) (λ k. get_or v k 0 / 16)
HasLanes-high n v long = HasLanes-splat n (λ a b. a / 2 ^ b) v 4 long

pub high-lt : (n : ℕ) (v : List ℕ) → length v ≡ n → Each1 (Fits w8) v → (k : ℕ) → k < n → get_or v k 0 / 16 < 16
high-lt n v long fits k l = omega (arith, (Each1-get_or (Fits w8) v k 0 (omega arith) fits).fits)

module _ (b : ℕ) (js : List ℕ) (f : ℕ → ℕ) (h : HasLanes (b * 16) js f) (small : (k : ℕ) → k < b * 16 → f k < 16) where
  -- positions below 16 may be looked up
  pub SwzOk-nibbles : SwzOk w8 16 (b * 16) 0 js
  SwzOk-nibbles =
      let long = h.long in
      SwzOk-from_below w8 16 b (b * 16) 0 js refl (omega arith) (Each1-from_get_or (λ j. j < 16) js 0 (λ i l. omega (arith, h.each i (omega arith), small i (omega arith))))

  -- what the look-up gives, in a vector that holds the table b times
  pub HasLanes-look_up : {wide : List ℕ} (t : ℕ → ℕ) → HasLanes (b * 16) wide (λ k. t (k % 16)) → HasLanes (b * 16) (swz_l w8 16 wide 0 js) (λ k. t (f k))
  HasLanes-look_up {wide} t table =
      let long = h.long in
      record {
        long = length-swz_l w8 16 wide 0 js ∙ long;
        each = λ k l.
            let e = h.each k l in
            let below = small k l in
            get_or-swz_l_below w8 16 wide 0 js k (omega arith) (omega arith)
            ∙ ap (λ j. get_or wide j 0) {x = 16 * ((0 + k) / 16) + get_or js k 0} {y = 16 * (k / 16) + f k} (omega arith)
            ∙ table.each (16 * (k / 16) + f k) (omega arith)
            ∙ ap t (omega arith);
      }

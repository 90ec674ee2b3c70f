-- Lanes of digits, and how far a loop over them has come.
use Rattle.std.proofs.Common.{◌≡◌, ℕ, zero, suc, ◌+◌, ◌-◌, ◌*◌, ◌/◌, ◌%◌, ◌^◌, ◌<◌, ◌≤◌, ◌⊎◌, inl, inr, List, [], ◌∷◌, ◌++◌, length, get_or, take, drop, replicate, refl, sym, ap, ◌∙◌, arith, bit_xor}
use Rattle.std.specs.Simd.Lanes.{zip2, put_chunk, chunk}
use Rattle.std.specs.Int.{byte_at, bytes_low_first}
use Rattle.std.proofs.lemmas.Simd.{length-zip2, get_or-zip2, length-chunk, get_or-chunk, get_or-put_chunk_below, get_or-put_chunk_at, get_or-put_chunk_above}
use Rattle.std.proofs.lemmas.Nat.{xor_comm}
use Rattle.std.proofs.lemmas.List.{get_or_append_left, get_or-append_right, get_or-replicate}
use lib.Bits.{xor_assoc, xor_zero_r}
use Rattle.byteorder.proofs.Bytes.{pow256}
use Rattle.crc64.specs.Folding.{span, gaps, gathered, entered, HasGathered, HasDigits}
use Rattle.crc64.proofs.Folded.{Within, gaps_within, past_register}

-- what a slice holds is gathered as from the whole
gathered_slice : (gs : List ℕ) (at n k : ℕ) (digits : List ℕ) → k + span < n
    → gathered gs (take n (drop at digits)) k ≡ gathered gs digits (at + k)
unfolding gathered
gathered_slice [] at n k digits room = refl
gathered_slice (gap ∷ gs) at n k digits room =
    let place : at + (k + (span - gap)) ≡ at + k + (span - gap) = omega arith in
    let read : get_or (take n (drop at digits)) (k + (span - gap)) 0 ≡ get_or digits (at + k + (span - gap)) 0 =
    get_or-chunk at n digits (k + (span - gap)) 0 (omega arith) ∙ ap (λ p. get_or digits p 0) place in
    (λ i. bit_xor (gathered_slice gs at n k digits room i) (read i))

-- only digits well before a place are gathered there
gathered_same : (gs : List ℕ) (old new : List ℕ) (at place : ℕ) → Within gs → place < at + 32
    → ((p : ℕ) → p < span + at → get_or new p 0 ≡ get_or old p 0) → gathered gs new place ≡ gathered gs old place
unfolding gathered
gathered_same [] old new at place within less same = refl
gathered_same (gap ∷ gs) old new at place within less same =
    let wide = within.0 in
    let low : gap ≤ span = within.1 in
    let read : get_or new (place + (span - gap)) 0 ≡ get_or old (place + (span - gap)) 0 = same (place + (span - gap)) (omega arith) in
    (λ i. bit_xor (gathered_same gs old new at place within.2 less same i) (read i))

first_lane : (bytes : List ℕ) (k : ℕ) → k < 32 → get_or (take 32 bytes) k 0 ≡ get_or bytes k 0
first_lane bytes k less = get_or-chunk 0 32 bytes k 0 less ∙ ap (λ p. get_or bytes p 0) {x = 0 + k} {y = k} (omega arith)

pub zeros : (n place : ℕ) → get_or (replicate {A = ℕ} n 0) place 0 ≡ 0
zeros zero place = refl
zeros (suc n) zero = refl
zeros (suc n) (suc place) = zeros n place

-- where all digits are 0
pub no_digits : (start : ℕ) (bytes digits : List ℕ) → ((place : ℕ) → get_or digits place 0 ≡ 0) → HasDigits start bytes 0 digits
no_digits start bytes digits none = record {
  before = λ place less. none place;
  each = λ place less. absurd (omega arith);
  behind = λ place enough. none (span + place);
}

-- a gap more
pub gap_more : (gs : List ℕ) (gap : ℕ) (byte : ℕ → ℕ) (history sum : List ℕ) → length history ≡ span + 32 → gap ≤ span
    → HasGathered gs byte history sum → HasGathered (gap ∷ gs) byte history (zip2 bit_xor sum (chunk (span - gap) 32 history))
unfolding gathered
gap_more gs gap byte history sum long within have =
    let more : ℕ = span - gap in
    let lanes_long : length (chunk more 32 history) ≡ 32 = length-chunk more 32 history (omega (arith, long)) in
    let wide = have.long in
    record {
      long = length-zip2 bit_xor sum (chunk more 32 history) (wide ∙ sym lanes_long) ∙ wide;
      each = λ k less.
          let place : more + k ≡ k + more = omega arith in
          let read : get_or (chunk more 32 history) k 0 ≡ get_or history (k + more) 0 =
          get_or-chunk more 32 history k 0 less ∙ ap (λ p. get_or history p 0) place in
          get_or-zip2 bit_xor sum (chunk more 32 history) k 0 0 0 (omega (arith, wide)) (omega (arith, lanes_long))
          ∙ (λ i. bit_xor (have.each k less i) (read i))
          ∙ xor_assoc (byte k) (gathered gs history k) (get_or history (k + more) 0);
    }

pub gathers_none : (lanes history : List ℕ) → length lanes ≡ 32 → HasGathered [] (λ k. get_or lanes k 0) history lanes
unfolding gathered
gathers_none lanes history long = record { long = long; each = λ k less. sym (xor_zero_r (get_or lanes k 0)) }

-- thirty-two digits more
pub digits_more : (start at size : ℕ) (bytes digits lanes sum : List ℕ) → span + at + 32 ≤ length digits → size ≡ span + 32
    → HasGathered gaps (λ k. get_or lanes k 0) (take size (drop at digits)) sum
    → HasDigits start bytes at digits → ((k : ℕ) → k < 32 → get_or lanes k 0 ≡ entered start bytes (at + k))
    → HasDigits start bytes (at + 32) (put_chunk (span + at) digits sum)
digits_more start at size bytes digits lanes sum room size_is found have entered_are = record {
  before = λ place less. get_or-put_chunk_below (span + at) digits sum place 0 (omega arith) ∙ have.before place less;
  each = λ place less. at_place place less (split place);
  behind = λ place enough. get_or-put_chunk_above (span + at) digits sum (span + place) 0 (omega (arith, wide)) ∙ have.behind place (omega arith);
}
  where
    wide : length sum ≡ 32
    wide = found.long

    split : (place : ℕ) → (place < at) ⊎ (at ≤ place)
    split place = grind arith

    same : (place : ℕ) → place < at + 32 → gathered gaps (put_chunk (span + at) digits sum) place ≡ gathered gaps digits place
    same place less = gathered_same gaps digits (put_chunk (span + at) digits sum) at place gaps_within less
        (λ p below. get_or-put_chunk_below (span + at) digits sum p 0 below)

    at_place : (place : ℕ) → place < at + 32 → (place < at) ⊎ (at ≤ place)
        → get_or (put_chunk (span + at) digits sum) (span + place) 0
        ≡ bit_xor (entered start bytes place) (gathered gaps (put_chunk (span + at) digits sum) place)
    at_place place less (inl early) =
        get_or-put_chunk_below (span + at) digits sum (span + place) 0 (omega arith) ∙ have.each place early
        ∙ ap (bit_xor (entered start bytes place)) (sym (same place less))
    at_place place less (inr late) =
        let k : ℕ = place - at in
        let in_lanes : k < 32 = omega arith in
        let here : at + k ≡ place = omega arith in
        let at_sum : span + place ≡ span + at + k = omega arith in
        ap (λ p. get_or (put_chunk (span + at) digits sum) p 0) at_sum
        ∙ get_or-put_chunk_at (span + at) digits sum k 0 (omega (arith, wide)) (omega (arith, wide))
        ∙ found.each k in_lanes
        ∙ (λ i. bit_xor ((entered_are k in_lanes ∙ ap (entered start bytes) here) i)
        ((gathered_slice gaps at size k digits (omega (arith, size_is)) ∙ ap (gathered gaps digits) here ∙ sym (same place less)) i))

-- what is left, thirty-two bytes more
abbrev pub IsLeft : ℕ → List ℕ → List ℕ → ℕ → List ℕ → Type 0
IsLeft from bytes digits at rest = (i : ℕ) → i < at → get_or rest i 0 ≡ bit_xor (get_or bytes (from + i) 0) (gathered gaps digits (from + i))

pub left_more : (from at size : ℕ) (bytes digits rest sum : List ℕ) → at + 32 ≤ length rest → size ≡ span + 32
    → HasGathered gaps (λ k. get_or (chunk (from + at) 32 bytes) k 0) (take size (drop (from + at) digits)) sum
    → IsLeft from bytes digits at rest → IsLeft from bytes digits (at + 32) (put_chunk at rest sum)
left_more from at size bytes digits rest sum room size_is found have i less = at_place (split i)
  where
    wide : length sum ≡ 32
    wide = found.long

    split : (place : ℕ) → (place < at) ⊎ (at ≤ place)
    split place = grind arith

    at_place : (i < at) ⊎ (at ≤ i) → get_or (put_chunk at rest sum) i 0 ≡ bit_xor (get_or bytes (from + i) 0) (gathered gaps digits (from + i))
    at_place (inl early) = get_or-put_chunk_below at rest sum i 0 early ∙ have i early
    at_place (inr late) =
        let k : ℕ = i - at in
        let in_lanes : k < 32 = omega arith in
        let here : from + at + k ≡ from + i = omega arith in
        let at_sum : i ≡ at + k = omega arith in
        ap (λ p. get_or (put_chunk at rest sum) p 0) at_sum
        ∙ get_or-put_chunk_at at rest sum k 0 (omega (arith, wide)) (omega (arith, wide))
        ∙ found.each k in_lanes
        ∙ (λ j. bit_xor ((get_or-chunk (from + at) 32 bytes k 0 in_lanes ∙ ap (λ p. get_or bytes p 0) here) j)
        ((gathered_slice gaps (from + at) size k digits (omega (arith, size_is)) ∙ ap (gathered gaps digits) here) j))

-- ---- the register's bytes

register_byte : (i n k r : ℕ) → k < n → get_or (bytes_low_first i n r) k 0 ≡ byte_at (i + k) r
register_byte i zero k r less = absurd (omega arith)
register_byte i (suc n) zero r less = let same : i ≡ i + 0 = omega arith in ap (λ j. byte_at j r) same
register_byte i (suc n) (suc k) r less =
    let same : suc i + k ≡ i + suc k = omega arith in
    register_byte (suc i) n k r (omega arith) ∙ ap (λ j. byte_at j r) same

byte_of : (k r : ℕ) → byte_at k r ≡ r / 2 ^ (8 * k) % 2 ^ 8
byte_of zero r = omega arith
byte_of (suc k) r = ap (λ p. r / p % 2 ^ 8) (pow256 (suc k))

register_bytes : (start k : ℕ) → start < 2 ^ 64 → k < 32 → (k < 8) ⊎ (8 ≤ k)
    → get_or (bytes_low_first 0 8 start ++ drop 8 (replicate 32 0)) k 0 ≡ start / 2 ^ (8 * k) % 2 ^ 8
register_bytes start k fits less (inl low) =
    get_or_append_left (bytes_low_first 0 8 start) (drop 8 (replicate 32 0)) 0 k low ∙ register_byte 0 8 k start low
    ∙ ap (λ j. byte_at j start) {x = 0 + k} {y = k} (omega arith) ∙ byte_of k start
register_bytes start k fits less (inr high) =
    get_or-append_right (bytes_low_first 0 8 start) (drop 8 (replicate 32 0)) 8 k 0 refl high
    ∙ get_or-replicate 24 (k - 8) 0 0 (omega arith) ∙ sym (past_register start k fits high)

pub first_entered : (start k : ℕ) (bytes buffer : List ℕ) → start < 2 ^ 64 → 32 ≤ length bytes
    → buffer ≡ bytes_low_first 0 8 start ++ drop 8 (replicate 32 0) → k < 32
    → get_or (zip2 bit_xor buffer (take 32 bytes)) k 0 ≡ entered start bytes k
first_entered start k bytes buffer fits long is less =
    let size : length buffer ≡ 32 = ap length is in
    let lanes_long : length (take 32 bytes) ≡ 32 = length-chunk 0 32 bytes long in
    get_or-zip2 bit_xor buffer (take 32 bytes) k 0 0 0 (omega (arith, size)) (omega (arith, lanes_long))
    ∙ (λ i. bit_xor ((ap (λ l. get_or l k 0) is ∙ register_bytes start k fits less (halves k)) i) (first_lane bytes k less i))
  where
    halves : (place : ℕ) → (place < 8) ⊎ (8 ≤ place)
    halves place = grind arith

-- behind the register
pub later_entered : (start at k : ℕ) (bytes : List ℕ) → start < 2 ^ 64 → 32 ≤ at → k < 32
    → get_or (chunk at 32 bytes) k 0 ≡ entered start bytes (at + k)
later_entered start at k bytes fits enough less =
    get_or-chunk at 32 bytes k 0 less
    ∙ sym (ap (λ v. bit_xor v (get_or bytes (at + k) 0)) (past_register start (at + k) fits (omega arith))
    ∙ xor_comm 0 (get_or bytes (at + k) 0) ∙ xor_zero_r (get_or bytes (at + k) 0))

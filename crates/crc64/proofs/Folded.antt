-- Folding keeps the remainder.
use Rattle.std.proofs.Common.{◌≡◌, ℕ, ◌+◌, ◌-◌, ◌*◌, ◌/◌, ◌%◌, ◌^◌, ◌<◌, ◌≤◌, List, [], ◌∷◌, length, get_or, refl, sym, ap, ◌∙◌, arith, bit_xor}
use Rattle.std.proofs.lemmas.Nat.{xor_comm, shr_below}
use Rattle.std.proofs.Math.Nat.{mod-eq_of_lt}
use lib.Bits.{xor_assoc, xor_self, xor_zero_r}
use Rattle.crc64.specs.Remainder.{remainder, polynomial, after}
use Rattle.crc64.specs.Folding.{span, gaps, gathered, entered, HasDigits}
use Rattle.crc64.proofs.Division.{xor_mul_pow, remainder_sum, remainder_past, remainder_zero}
use Rattle.crc64.proofs.Degrees.{wider}
use Rattle.crc64.proofs.Multiple.{copies, spread, vanishes}
use Rattle.crc64.proofs.Places.{placed, placed_same, placed_sum, placed_none, placed_split, placed_list, placed_below, placed_number}

-- every gap is within the span, and wider than a vector
abbrev pub Within : List ℕ → Type 0
Within [] = Unit {0}
Within (gap ∷ gaps) = (32 ≤ gap) × (gap ≤ span) × Within gaps

pub gaps_within : Within gaps
gaps_within = search arith

module _ (digits : List ℕ) (n : ℕ) (before : (place : ℕ) → place < span → get_or digits place 0 ≡ 0)
    (behind : (place : ℕ) → n ≤ place → get_or digits (span + place) 0 ≡ 0) where
  abbrev pub quotient : ℕ
  quotient = placed (λ i. get_or digits (span + i) 0) n

  -- the digits moved by one gap
  one_gap : (gap : ℕ) → gap ≤ span → placed (λ p. get_or digits (p + (span - gap)) 0) (n + span) ≡ quotient * 2 ^ (8 * gap)
  one_gap gap within =
      let more : ℕ = span - gap in
      let at : ℕ → ℕ = λ p. get_or digits (p + more) 0 in
      let later : ℕ → ℕ = λ i. at (gap + i) in
      let length_is : n + span ≡ gap + (n + more) = omega arith in
      let none : placed at gap ≡ 0 = placed_none at gap (λ p less. before (p + more) (omega arith)) in
      let first : placed later n ≡ quotient =
      placed_same later (λ i. get_or digits (span + i) 0) n (λ i less. ap (λ k. get_or digits k 0) {x = gap + i + more} {y = span + i} (omega arith)) in
      let last : placed (λ i. later (n + i)) more ≡ 0 =
      placed_none (λ i. later (n + i)) more
      (λ i less. ap (λ k. get_or digits k 0) {x = gap + (n + i) + more} {y = span + (n + i)} (omega arith) ∙ behind (n + i) (omega arith)) in
      let zeros : 0 * 2 ^ (8 * n) ≡ 0 = omega arith in
      let all : placed later (n + more) ≡ quotient =
      placed_split later n more
      ∙ (λ i. bit_xor (first i) (last i * 2 ^ (8 * n)))
      ∙ ap (bit_xor quotient) zeros ∙ xor_zero_r quotient in
      ap (placed at) length_is
      ∙ placed_split at gap (n + more)
      ∙ (λ i. bit_xor (none i) (all i * 2 ^ (8 * gap)))
      ∙ xor_comm 0 (quotient * 2 ^ (8 * gap)) ∙ xor_zero_r (quotient * 2 ^ (8 * gap))

  pub gathered_copies : (gs : List ℕ) → Within gs → placed (λ p. gathered gs digits p) (n + span) ≡ copies gs quotient
  unfolding gathered copies
  gathered_copies [] within = placed_none (λ p. 0) (n + span) (λ p less. refl)
  gathered_copies (gap ∷ gs) within =
      placed_sum (λ p. gathered gs digits p) (λ p. get_or digits (p + (span - gap)) 0) (n + span)
      ∙ (λ i. bit_xor (gathered_copies gs within.2 i) (one_gap gap within.1 i))

-- what is added twice goes away
twice : (a b : ℕ) → bit_xor (bit_xor a b) b ≡ a
twice a b = xor_assoc a b b ∙ ap (bit_xor a) (xor_self b) ∙ xor_zero_r a

back : (a b c : ℕ) → a ≡ bit_xor b c → b ≡ bit_xor a c
back a b c is = sym (ap (λ v. bit_xor v c) is ∙ twice b c)

pub past_register : (start place : ℕ) → start < 2 ^ 64 → 8 ≤ place → start / 2 ^ (8 * place) % 2 ^ 8 ≡ 0
past_register start place fits enough =
    let less : start < 2 ^ (0 + 8 * place) = wider start 64 (0 + 8 * place) (omega arith) fits in
    let none : start / 2 ^ (8 * place) < 2 ^ 0 = shr_below start 0 (8 * place) less in
    omega (arith, none)

pub folded : (start count : ℕ) (bytes digits rest : List ℕ) → start < 2 ^ 64 → 8 ≤ count → span + count ≡ length bytes
    → ((i : ℕ) → get_or digits i 0 < 2 ^ 8) → HasDigits start bytes count digits → length rest ≡ span
    → ((i : ℕ) → i < span → get_or rest i 0 ≡ bit_xor (get_or bytes (count + i) 0) (gathered gaps digits (count + i)))
    → after 0 rest ≡ after start bytes
folded start count bytes digits rest fits enough long small have short left =
    let n : ℕ = 8 * count in
    let q : ℕ = quotient digits count have.before have.behind in
    let r : ℕ = polynomial rest in
    let sums : ℕ → ℕ = gathered gaps digits in
    let message : ℕ → ℕ = entered start bytes in
    let low : ℕ = placed sums count in
    let high : ℕ = placed (λ i. sums (count + i)) span in
    let size : length bytes ≡ count + span = omega (arith, long) in
    let fits_in : start % 2 ^ (8 * (count + span)) ≡ start =
    let less : start < 2 ^ (8 * (count + span)) = wider start 64 (8 * (count + span)) (omega arith) fits in mod-eq_of_lt less in
    let dividend : bit_xor start (polynomial bytes) ≡ placed message (count + span) =
    (λ i. bit_xor (sym (placed_number start (count + span) ∙ fits_in) i)
    ((placed_list bytes ∙ ap (placed (λ i. get_or bytes i 0)) size) i))
    ∙ sym (placed_sum (λ i. start / 2 ^ (8 * i) % 2 ^ 8) (λ i. get_or bytes i 0) (count + span)) in
    let first : placed message count ≡ bit_xor q low =
    placed_same message (λ i. bit_xor (get_or digits (span + i) 0) (sums i)) count (λ i less. back _ _ _ (have.each i less))
    ∙ placed_sum (λ i. get_or digits (span + i) 0) sums count in
    let rest_is : placed (λ i. get_or rest i 0) span ≡ r = sym (placed_list rest ∙ ap (placed (λ i. get_or rest i 0)) short) in
    let entered_is : (i : ℕ) → message (count + i) ≡ get_or bytes (count + i) 0 = λ i.
    ap (λ v. bit_xor v (get_or bytes (count + i) 0)) (past_register start (count + i) fits (omega arith))
    ∙ xor_comm 0 (get_or bytes (count + i) 0) ∙ xor_zero_r (get_or bytes (count + i) 0) in
    let last : placed (λ i. message (count + i)) span ≡ bit_xor r high =
    placed_same (λ i. message (count + i)) (λ i. bit_xor (get_or rest i 0) (sums (count + i))) span
    (λ i less. entered_is i ∙ back _ _ _ (left i less))
    ∙ placed_sum (λ i. get_or rest i 0) (λ i. sums (count + i)) span
    ∙ ap (λ v. bit_xor v high) rest_is in
    let copied : bit_xor low (high * 2 ^ n) ≡ copies gaps q =
    sym (placed_split sums count span) ∙ gathered_copies digits count have.before have.behind gaps gaps_within in
    let whole : bit_xor start (polynomial bytes) ≡ bit_xor (spread q) (r * 2 ^ n) =
    dividend ∙ placed_split message count span
    ∙ (λ i. bit_xor (first i) (last i * 2 ^ n))
    ∙ ap (bit_xor (bit_xor q low)) (sym (xor_mul_pow r high n) ∙ xor_comm (r * 2 ^ n) (high * 2 ^ n))
    ∙ xor_assoc q low (bit_xor (high * 2 ^ n) (r * 2 ^ n))
    ∙ ap (bit_xor q) (sym (xor_assoc low (high * 2 ^ n) (r * 2 ^ n)) ∙ ap (λ v. bit_xor v (r * 2 ^ n)) copied)
    ∙ sym (xor_assoc q (copies gaps q) (r * 2 ^ n)) in
    let q_small : q < 2 ^ n = placed_below (λ i. get_or digits (span + i) 0) count (λ i. small (span + i)) in
    let steps : 8 * length bytes ≡ 8 * span + n = omega (arith, size) in
    let other : 8 * length bytes ≡ n + 8 * span = omega (arith, size) in
    let gone : remainder (8 * length bytes) (spread q) ≡ 0 = ap (λ k. remainder k (spread q)) steps ∙ vanishes n q q_small in
    let kept : remainder (8 * length bytes) (r * 2 ^ n) ≡ remainder (8 * span) r =
    ap (λ k. remainder k (r * 2 ^ n)) other ∙ remainder_past n (8 * span) r in
    sym (ap (remainder (8 * length bytes)) whole
    ∙ remainder_sum (8 * length bytes) (spread q) (r * 2 ^ n)
    ∙ (λ i. bit_xor (gone i) (kept i))
    ∙ sym (remainder_sum (8 * span) 0 r ∙ ap (λ v. bit_xor v (remainder (8 * span) r)) (remainder_zero (8 * span)))
    ∙ ap (λ k. remainder (8 * k) (bit_xor 0 r)) (sym short))

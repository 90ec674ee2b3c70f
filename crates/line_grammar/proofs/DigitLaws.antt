-- Lower-case hexadecimal digits and the bytes that they spell.
use Rattle.std.proofs.Common.{◌≡◌, ℕ, zero, suc, ◌+◌, ◌*◌, ◌/◌, ◌%◌, ◌<◌, Bool, true, false, ◌&&◌, ◌||◌, ◌==◌, not, List, [], ◌∷◌, length, slice_index, Option, Some, None, unwrap_or, Result, Ok, Err, refl, sym, ap, ◌∙◌, arith, inl, inr}
use Rattle.std.proofs.lemmas.Bool.{and_parts, cases_eq, cases_lt, eqb-true}
use Rattle.std.proofs.lemmas.List.Elements.{All-cons, All-head, All-nil, All-tail}
use Rattle.std.specs.List.{AllPass}
use Rattle.hex.specs.Hex.{IsBytes, is_hex_digit, decode_of, decode_pairs, digit_or_error, hex_digit_value, encode_lower, encode_with, lower_digits, pair_value, value_at, ◌>>=◌}
use Rattle.hex.specs.declared.error.FromHexError.{FromHexError}
use Rattle.hex.proofs.HexLemmas.{decode_of-even, decode_of-odd, decode_of-digits, decode_of-ok, length-encode_with}
use Rattle.line_grammar.specs.Digits.{is_lower_digit}

-- each value below 16 has a lower-case digit
abbrev all_lower : ℕ → Bool
all_lower zero = true
all_lower (suc n) = is_lower_digit (slice_index lower_digits n) && all_lower n

-- the digit of a value below n
all_lower-at : (n k : ℕ) → all_lower n ≡ true → k < n → is_lower_digit (slice_index lower_digits k) ≡ true
all_lower-at zero k h lt = absurd (omega arith)
all_lower-at (suc n) k h lt =
    let parts = and_parts (is_lower_digit (slice_index lower_digits n)) (all_lower n) h in
    elim (cases_lt k n) [
      | inl below ↦ all_lower-at n k parts.1 below
      | inr top ↦ let e : k ≡ n = omega arith in rw e parts.0
    ]

-- the test that a byte, if it is a lower-case digit, is the digit of its value
abbrev is_own_digit : ℕ → Bool
is_own_digit c = not (is_lower_digit c) || (slice_index lower_digits (unwrap_or (hex_digit_value c) 99) == c)

abbrev all_own : ℕ → Bool
all_own zero = true
all_own (suc n) = is_own_digit n && all_own n

-- a byte below n that is a lower-case digit is the digit of its value
all_own-at : (n k : ℕ) → all_own n ≡ true → k < n → is_own_digit k ≡ true
all_own-at zero k h lt = absurd (omega arith)
all_own-at (suc n) k h lt =
    let parts = and_parts (is_own_digit n) (all_own n) h in
    elim (cases_lt k n) [
      | inl below ↦ all_own-at n k parts.1 below
      | inr top ↦ let e : k ≡ n = omega arith in rw e parts.0
    ]

-- no digit is greater than f
lower_small : (c : ℕ) → is_lower_digit c ≡ true → c < 103
lower_small c h = grind (arith)

-- a test that holds where another does
own_true : (b c : Bool) → (not b || c) ≡ true → b ≡ true → c ≡ true
own_true true c h e = h
own_true false c h e = cc e

-- a lower-case digit is the digit of its value
pub digit_of_value : (c v : ℕ) → is_lower_digit c ≡ true → hex_digit_value c ≡ Some v → slice_index lower_digits v ≡ c
digit_of_value c v h e =
    let small = lower_small c h in
    let own = own_true (is_lower_digit c) (slice_index lower_digits (unwrap_or (hex_digit_value c) 99) == c) (all_own-at 103 c refl small) h in
    let same = eqb-true (slice_index lower_digits (unwrap_or (hex_digit_value c) 99)) c own in
    let value : unwrap_or (hex_digit_value c) 99 ≡ v = ap (λ (o : Option ℕ). unwrap_or o 99) e in
    ap (slice_index lower_digits) (sym value) ∙ same

abbrev lower_holds : ℕ → Type 0
lower_holds c = is_lower_digit c ≡ true

-- what is spelled has lower-case digits alone
pub lower-encode : (bytes : List ℕ) → IsBytes bytes → AllPass is_lower_digit (encode_lower bytes)
unfolding encode_with
lower-encode [] h = All-nil lower_holds
lower-encode (b ∷ bs) h =
    let fits : b < 256 = h 0 in
    let low = slice_index lower_digits (b % 16) in
    All-cons lower_holds (slice_index lower_digits (b / 16)) (low ∷ encode_lower bs) (all_lower-at 16 (b / 16) refl (omega arith))
    (All-cons lower_holds low (encode_lower bs) (all_lower-at 16 (b % 16) refl (omega arith)) (lower-encode bs (λ k. h (suc k))))

-- both steps of a reading went well
bind_ok : {A B : Type 0} (r : Result A FromHexError) (f : A → Result B FromHexError) (y : B)
    → (r >>= f) ≡ Ok y → (x : A) × (r ≡ Ok x) × (f x ≡ Ok y)
bind_ok (Ok x) f y h = (x, refl, h)
bind_ok (Err e) f y h = cc h

-- a digit that was read has its value
digit_read : (c i : ℕ) (o : Option ℕ) (v : ℕ) → digit_or_error c i o ≡ Ok v → o ≡ Some v
digit_read c i (Some w) v h = cc h
digit_read c i None v h = cc h

-- a digit's value
value_small : (c v : ℕ) → hex_digit_value c ≡ Some v → v < 16
value_small c v h = grind (arith)

-- lower-case digits that decode are the spelling of what they decode to
pub encode-decode_pairs : (i : ℕ) (s bytes : List ℕ) → AllPass is_lower_digit s → decode_pairs i s ≡ Ok bytes → encode_lower bytes ≡ s
unfolding decode_pairs encode_with
encode-decode_pairs i [] bytes all h = let e : [] ≡ bytes = cc h in rw (← e) refl
encode-decode_pairs i (a ∷ []) bytes all h = cc h
encode-decode_pairs i (a ∷ b ∷ rest) bytes all h =
    let p0 = bind_ok (pair_value a b i) _ bytes h in
    let p1 = bind_ok (value_at a i) _ p0.0 p0.1 in
    let p2 = bind_ok (value_at b (i + 1)) _ p0.0 p1.2 in
    let p3 = bind_ok (decode_pairs (i + 2) rest) _ bytes p0.2 in
    let tail = All-tail lower_holds a (b ∷ rest) all in
    let ih = encode-decode_pairs (i + 2) rest p3.0 (All-tail lower_holds b rest tail) p3.1 in
    let ra = digit_read a i (hex_digit_value a) p1.0 p1.1 in
    let rb = digit_read b (i + 1) (hex_digit_value b) p2.0 p2.1 in
    let da = digit_of_value a p1.0 (All-head lower_holds a (b ∷ rest) all) ra in
    let db = digit_of_value b p2.0 (All-head lower_holds b rest tail) rb in
    let va = value_small a p1.0 ra in
    let vb = value_small b p2.0 rb in
    let e : p0.0 ∷ p3.0 ≡ bytes = cc (p3.2) in
    let byte : p1.0 * 16 + p2.0 ≡ p0.0 = cc (p2.2) in
    let high : p0.0 / 16 ≡ p1.0 = omega arith in
    let low : p0.0 % 16 ≡ p2.0 = omega arith in
    rw (← e) (cc (ap (slice_index lower_digits) high, ap (slice_index lower_digits) low, da, db, ih))

-- the same for a whole text
pub encode-decode_of : (s bytes : List ℕ) → AllPass is_lower_digit s → decode_of s ≡ Ok bytes → encode_lower bytes ≡ s
encode-decode_of s bytes all h =
    elim (cases_eq (length s % 2) 1) [
      | inl odd ↦ cc (sym h ∙ decode_of-odd s odd)
      | inr even ↦
          let e : length s % 2 ≡ 0 = omega arith in
          encode-decode_pairs 0 s bytes all (sym (decode_of-even s e) ∙ h)
    ]

-- what is no even number of lower-case digits spells no bytes
pub never_spelled : (s bytes : List ℕ) → IsBytes bytes → s ≡ encode_lower bytes → AllPass is_lower_digit s × (length s % 2 ≡ 0)
never_spelled s bytes h e =
    let len = length-encode_with lower_digits bytes in
    (rw e (lower-encode bytes h), rw e (omega (arith, len)))

-- a lower-case digit is a digit
hex_test : (c : ℕ) → is_lower_digit c ≡ true → is_hex_digit c ≡ true
hex_test c h = grind arith

-- the same of all
abbrev hex_holds : ℕ → Type 0
hex_holds c = is_hex_digit c ≡ true

hex_from_lower : (s : List ℕ) → AllPass is_lower_digit s → AllPass is_hex_digit s
hex_from_lower [] h = All-nil hex_holds
hex_from_lower (c ∷ cs) h = All-cons hex_holds c cs (hex_test c (All-head lower_holds c cs h)) (hex_from_lower cs (All-tail lower_holds c cs h))

-- an even number of lower-case digits spells some bytes
pub spelled_by : (s : List ℕ) → AllPass is_lower_digit s → length s % 2 ≡ 0 → (bytes : List ℕ) × IsBytes bytes × (s ≡ encode_lower bytes)
spelled_by s lower even =
    let decoded = decode_of-digits s even (hex_from_lower s lower) in
    (decoded.0, (decode_of-ok s decoded.0 decoded.1).3, sym (encode-decode_of s decoded.0 lower decoded.1))

-- Words of decimal digits.
use Rattle.std.proofs.Common.{◌≡◌, ◌≢◌, ℕ, zero, suc, ◌+◌, ◌-◌, ◌*◌, ◌/◌, ◌%◌, ◌^◌, ◌<◌, ◌≤◌, true, List, [], ◌∷◌, ◌++◌, length, get_or, take, Option, Some, None, Result, Ok, Err, refl, sym, ap, ◌∙◌, subst, arith, inl, inr, add-one}
use Rattle.std.specs.Prelude.{map, MatchOption, IfNone}
use Rattle.std.proofs.lemmas.Bool.{cases_eq}
use Rattle.std.proofs.lemmas.Fmt.{decimal_digit, decimal-digits_of, IsAscii-from_digits}
use Rattle.std.proofs.lemmas.Int.Digits.{all_below_base_digits_of, same_from_digits_of, first_digits_of, digits_of_step, digits_value_more}
use Rattle.std.proofs.lemmas.List.{map-append, take_all}
use Rattle.std.proofs.lemmas.List.Elements.{All-cons, All-head, All-nil, All-tail}
use Rattle.std.proofs.lemmas.Grind.{take_at_read}
use Rattle.std.proofs.lemmas.Str.Parse.{IsNumeralModel, numerals_by_value, tells_digits, parse_plain, digit_at, digit_from_value}
use Rattle.std.proofs.lemmas.Str.{IsUtf8-from_ascii}
use Rattle.std.specs.Char.{digit_value, is_ascii_digit}
use Rattle.std.specs.Fmt.{decimal}
use Rattle.std.specs.Int.Digits.{digits_of, AllBelowBase}
use Rattle.std.specs.List.{AllPass}
use Rattle.std.specs.Result.{result_ok}
use Rattle.std.specs.Str.{IsUtf8}
use Rattle.std.specs.Str.Parse.{AllDigits, digits_value, ParsesUnsigned}
use Rattle.line_grammar.specs.Lines.{Lacks}
use Rattle.line_grammar.specs.Numbers.{number_word, IsNumberWord}
use Rattle.line_grammar.specs.Values.{IsNumber}

-- the value of digits, as std's parser has it
own : IsNumeralModel (AllDigits 10) (digits_value 10)
own = numerals_by_value (AllDigits 10) tells_digits

-- digits as bytes
abbrev shift : List ℕ → List ℕ
shift ds = map (λ digit. 48 + digit) ds

-- below 2^64 a number is written as std writes it
pub number_word_is : (n : ℕ) → n < 2 ^ 64 → number_word n ≡ decimal n
unfolding number_word
number_word_is zero h = sym (decimal_digit 0 (omega arith))
number_word_is (suc n) h = sym (decimal-digits_of (suc n) (omega arith) h)

-- no byte below `0` is a digit
shifted_lacks : (byte : ℕ) (ds : List ℕ) → byte < 48 → Lacks byte (shift ds)
shifted_lacks byte [] low = tt
shifted_lacks byte (d ∷ ds) low = (λ e. omega (arith, e), shifted_lacks byte ds low)

-- a number has digits alone
pub number_lacks : (byte n : ℕ) → byte < 48 → Lacks byte (number_word n)
unfolding number_word
number_lacks byte zero low = (λ e. omega (arith, e), tt)
number_lacks byte (suc n) low = shifted_lacks byte (digits_of 10 (suc n)) low

-- bytes as digits
unshift : List ℕ → List ℕ
unshift ds = map (λ c. c - 48) ds

-- digits as bytes and back
unshift-shift : (ds : List ℕ) → unshift (shift ds) ≡ ds
unfolding unshift
unshift-shift [] = refl
unshift-shift (d ∷ ds) = let e : 48 + d - 48 ≡ d = omega arith in cc (e, unshift-shift ds)

-- 0 and a number above it are written otherwise
zero_alone : (n : ℕ) → number_word 0 ≡ number_word (suc n) → ⊥
unfolding number_word unshift
zero_alone n e =
    let same : 0 ∷ [] ≡ digits_of 10 (suc n) = ap unshift e ∙ unshift-shift (digits_of 10 (suc n)) in
    let first : 0 ≡ get_or (digits_of 10 (suc n)) 0 0 = ap (λ (l : List ℕ). get_or l 0 0) same in
    let above = first_digits_of 10 (suc n) (omega arith) (omega arith) in
    omega (arith, first, above)

-- each word spells one number
pub number_word_injective : (m n : ℕ) → number_word m ≡ number_word n → m ≡ n
unfolding number_word
number_word_injective zero zero e = refl
number_word_injective zero (suc n) e = absurd (zero_alone n e)
number_word_injective (suc m) zero e = absurd (zero_alone m (sym e))
number_word_injective (suc m) (suc n) e =
    let same : digits_of 10 (suc m) ≡ digits_of 10 (suc n) =
    sym (unshift-shift (digits_of 10 (suc m))) ∙ ap unshift e ∙ unshift-shift (digits_of 10 (suc n)) in
    same_from_digits_of 10 (suc m) (suc n) (omega arith) same

-- ---- what a number's word is made of

-- digits, the first of them 0 only if it stands alone
pub record IsDigits (word : List ℕ) : Type 0 where
  pub some : 0 < length word
  pub digits : AllDigits 10 word
  pub alone : get_or word 0 0 ≡ 48 → length word ≡ 1

-- a digit's value is below ten
digit_small : (d : ℕ) → d < 10 → digit_value (48 + d) < 10
digit_small d h = grind arith

-- digits as bytes are digits
shifted_digits : (ds : List ℕ) → AllBelowBase 10 ds → AllDigits 10 (shift ds)
shifted_digits [] h = tt
shifted_digits (d ∷ ds) h = (digit_small d h.0, shifted_digits ds h.1)

-- the first is not 0
shifted_first : (ds : List ℕ) → 0 < get_or ds 0 0 → (0 < length (shift ds)) × (48 < get_or (shift ds) 0 0)
shifted_first [] h = absurd (omega arith)
shifted_first (d ∷ ds) h = (omega arith, omega arith)

-- a number's word is digits
pub IsDigits-number_word : (n : ℕ) → IsDigits (number_word n)
unfolding number_word
IsDigits-number_word zero = record { some = omega arith; digits = (digit_small 0 (omega arith), tt); alone = λ e. refl }
IsDigits-number_word (suc n) =
    let first = shifted_first (digits_of 10 (suc n)) (first_digits_of 10 (suc n) (omega arith) (omega arith)) in
    record {
      some = first.0;
      digits = shifted_digits (digits_of 10 (suc n)) (all_below_base_digits_of 10 (suc n) (omega arith));
      alone = λ e. absurd (omega (arith, first.1));
    }

-- the value of one digit
digit_value_is : (c : ℕ) → 48 ≤ c → c ≤ 57 → digit_value c ≡ c - 48
digit_value_is c low high = grind arith

-- the value of the first i digits
abbrev value_of : List ℕ → ℕ → ℕ
value_of word i = digits_value 10 (take i word)

-- the digits so far are those of their value
abbrev IsRead : List ℕ → ℕ → Type 0
IsRead word i = (shift (digits_of 10 (value_of word i)) ≡ take i word) × (0 < i → 0 < value_of word i)

-- one digit more is read
one_digit_more : (word : List ℕ) → AllDigits 10 word → 48 < get_or word 0 0 → (i : ℕ) → i < length word → IsRead word i → IsRead word (i + 1)
one_digit_more word digits first i lt h =
    let c = get_or word i 0 in
    let range = digit_at word i digits lt in
    let value : digit_value c ≡ c - 48 = digit_value_is c range.0 range.1 in
    let v = value_of word i in
    let more : value_of word (i + 1) ≡ v * 10 + digit_value c = digits_value_more 10 word i lt in
    let positive : 0 < v * 10 + digit_value c =
    elim (cases_eq i 0) [
      | inl start ↦ let e : get_or word i 0 ≡ get_or word 0 0 = ap (λ (k : ℕ). get_or word k 0) start in omega (arith, value, e, first, range.0)
      | inr on ↦ let above : 0 < v = h.1 (omega arith) in omega (arith, above)
    ] in
    let n = v * 10 + digit_value c in
    let step = digits_of_step 10 n (omega arith) positive in
    let front : n / 10 ≡ v = omega (arith, value, range.0, range.1) in
    let last : n % 10 ≡ digit_value c = omega (arith, value, range.0, range.1) in
    let digits_now : digits_of 10 n ≡ digits_of 10 v ++ (digit_value c ∷ []) =
    step ∙ ap (λ (l : List ℕ). l ++ (n % 10 ∷ [])) (ap (digits_of 10) front) ∙ ap (λ (d : ℕ). digits_of 10 v ++ (d ∷ [])) last in
    let byte : 48 + digit_value c ≡ c = omega (arith, value, range.0) in (
      ap (λ (m : ℕ). shift (digits_of 10 m)) more ∙ ap shift digits_now ∙ map-append (λ digit. 48 + digit) (digits_of 10 v) (digit_value c ∷ [])
          ∙ ap (λ (l : List ℕ). l ++ ((48 + digit_value c) ∷ [])) h.0 ∙ ap (λ (b : ℕ). take i word ++ (b ∷ [])) byte ∙ sym (take_at_read word i 0 lt).1,
      λ pos. rw more positive,
    )

-- the first i digits are those of their value
is_read : (word : List ℕ) → AllDigits 10 word → 48 < get_or word 0 0 → (i : ℕ) → i ≤ length word → IsRead word i
is_read word digits first zero h = (refl, λ pos. absurd (omega arith))
is_read word digits first (suc i) h =
    subst (IsRead word) (add-one i) (one_digit_more word digits first i (omega arith) (is_read word digits first i (omega arith)))

-- how a number above 0 is written
number_word-positive : (n : ℕ) → 0 < n → number_word n ≡ shift (digits_of 10 n)
unfolding number_word
number_word-positive zero h = absurd (omega arith)
number_word-positive (suc n) h = refl

-- the digit 0 alone
only_zero : (word : List ℕ) → length word ≡ 1 → get_or word 0 0 ≡ 48 → word ≡ 48 ∷ []
only_zero [] len first = absurd (omega arith)
only_zero (c ∷ []) len first = ap (λ (x : ℕ). x ∷ []) first
only_zero (c ∷ d ∷ ds) len first = absurd (omega arith)

-- digits are the word of their value
pub number_word-value : (word : List ℕ) → IsDigits word → number_word (digits_value 10 word) ≡ word
unfolding number_word
number_word-value word h =
    elim (cases_eq (get_or word 0 0) 48) [
      | inl start ↦ let e = only_zero word (h.alone start) start in rw e refl
      | inr other ↦
          let range = digit_at word 0 h.digits h.some in
          let read = is_read word h.digits (omega (arith, range.0)) (length word) (omega arith) in
          let whole : take (length word) word ≡ word = take_all (length word) word (omega arith) in
          let positive : 0 < digits_value 10 word = rw (← ap (digits_value 10) whole) (read.1 h.some) in
          number_word-positive (digits_value 10 word) positive ∙ ap (λ (l : List ℕ). shift (digits_of 10 (digits_value 10 l))) (sym whole) ∙ read.0 ∙ whole
    ]

-- digits are a number's word
pub number_from_digits : (word : List ℕ) → IsDigits word → IsNumberWord word
number_from_digits word h = (digits_value 10 word, sym (number_word-value word h))

-- a number's word is digits
pub digits_from_number : (word : List ℕ) → IsNumberWord word → IsDigits word
digits_from_number word h = rw h.1 (IsDigits-number_word h.0)

-- ---- the tests of the code

-- a digit passes the test
digit_test : (c : ℕ) → digit_value c < 10 → is_ascii_digit c ≡ true
digit_test c h = let range = digit_from_value c h in in_range c range.0 range.1
  where
    in_range : (c : ℕ) → 48 ≤ c → c ≤ 57 → is_ascii_digit c ≡ true
    in_range c low high = grind arith

-- what passes the test is a digit
test_digit : (c : ℕ) → is_ascii_digit c ≡ true → digit_value c < 10
test_digit c h = grind arith

-- the fact that a byte passes the test
abbrev passes : ℕ → Type 0
passes c = is_ascii_digit c ≡ true

-- bytes that pass the test are digits
pub digits_from_test : (word : List ℕ) → AllPass is_ascii_digit word → AllDigits 10 word
digits_from_test [] h = tt
digits_from_test (c ∷ cs) h = (test_digit c (All-head passes c cs h), digits_from_test cs (All-tail passes c cs h))

-- digits pass the test
pub test_from_digits : (word : List ℕ) → AllDigits 10 word → AllPass is_ascii_digit word
test_from_digits [] h = All-nil passes
test_from_digits (c ∷ cs) h = All-cons passes c cs (digit_test c h.0) (test_from_digits cs h.1)

-- digits are a text
pub digits_are_text : (word : List ℕ) → AllDigits 10 word → IsUtf8 word
digits_are_text word h = IsUtf8-from_ascii word (IsAscii-from_digits word h)

-- what parsing shows
pub parsed : (E : Type 0) (word : List ℕ) (r : Result ℕ E) → IsDigits word → ParsesUnsigned {E = E} 32 10 word r
    → MatchOption (result_ok r) ((n : ℕ) × (2 ^ 32 ≤ n) × (word ≡ number_word n)) (λ n. IsNumber n × (word ≡ number_word n))
parsed E word (Ok n) h p =
    let range = digit_at word 0 h.digits h.some in
    let plain = parse_plain own {E = E} 32 word (Ok n) p (omega (arith, range.0)) in
    (rw plain.1 plain.0.2, sym (ap number_word plain.1 ∙ number_word-value word h))
parsed E word (Err e) h p =
    let range = digit_at word 0 h.digits h.some in
    let plain = parse_plain own {E = E} 32 word (Err e) p (omega (arith, range.0)) in
    (digits_value 10 word, not_small (digits_value 10 word) (λ small. plain (h.digits, h.some, small)), sym (number_word-value word h))
  where
    not_small : (n : ℕ) → (n < 2 ^ 32 → ⊥) → 2 ^ 32 ≤ n
    not_small n h = omega (arith, h)

-- a word of a large number is that of no small one
pub no_small_number : (word : List ℕ) (r : Option ℕ)
    → MatchOption r ((n : ℕ) × (2 ^ 32 ≤ n) × (word ≡ number_word n)) (λ n. IsNumber n × (word ≡ number_word n))
    → IfNone r ((n : ℕ) → IsNumber n → word ≢ number_word n)
no_small_number word None h = λ n small e. let same = number_word_injective h.0 n (sym h.2 ∙ e) in omega (arith, same, h.1, small)
no_small_number word (Some m) h = tt

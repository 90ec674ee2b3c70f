-- The number that a word of digits spells.
use Rattle.std.proofs.Common.{◌≡◌, ◌≢◌, ℕ, ◌<◌, ◌^◌, List, Result, Ok, Err, sym, ap, ◌∙◌, arith}
use Rattle.std.specs.Prelude.{decimal, MatchOption}
use Rattle.std.specs.Result.{result_ok}
use Rattle.std.specs.Str.Parse.{AllDigits, digits_value, ParsesUnsigned}
use Rattle.std.proofs.lemmas.Str.Parse.{IsNumeralModel, numerals_by_value, tells_digits, parse_plain, digit_at}
use Rattle.line_grammar.specs.Numbers.{number_word, IsNumberWord}
use Rattle.line_grammar.proofs.NumberLaws.{IsDigits, number_word_is, number_word-value, number_word_injective}

own : IsNumeralModel (AllDigits 10) (digits_value 10)
own = numerals_by_value (AllDigits 10) tells_digits

-- what parsing shows
pub parsed_start : (E : Type 0) (word : List ℕ) (r : Result ℕ E) → IsDigits word → ParsesUnsigned {E = E} 64 10 word r
    → MatchOption (result_ok r) ((n : ℕ) → n < 2 ^ 64 → word ≢ decimal n) (λ n. (n < 2 ^ 64) × (word ≡ decimal n))
parsed_start E word (Ok n) h p =
    let range = digit_at word 0 h.digits h.some in
    let plain = parse_plain own {E = E} 64 word (Ok n) p (omega (arith, range.0)) in
    let small : n < 2 ^ 64 = rw plain.1 plain.0.2 in
    (small, sym (ap number_word plain.1 ∙ number_word-value word h) ∙ number_word_is n small)
parsed_start E word (Err e) h p = λ n small is.
    let range = digit_at word 0 h.digits h.some in
    let plain = parse_plain own {E = E} 64 word (Err e) p (omega (arith, range.0)) in
    let same : digits_value 10 word ≡ n = number_word_injective (digits_value 10 word) n (number_word-value word h ∙ is ∙ sym (number_word_is n small)) in
    plain (h.digits, h.some, rw same small)

-- a word that is no number's
pub no_start_word : (word : List ℕ) → ¬ IsNumberWord word → (n : ℕ) → n < 2 ^ 64 → word ≢ decimal n
no_start_word word other n small e = other (n, e ∙ sym (number_word_is n small))

-- The number that a word spells, by std's decimal digits.
use Rattle.std.proofs.Common.{◌≡◌, ◌≢◌, ℕ, ◌≤◌, ◌^◌, List, Option, None, Some, sym, ◌∙◌, arith}
use Rattle.std.specs.Prelude.{MatchOption, IfSome, IfNone}
use Rattle.std.specs.Fmt.{decimal}
use Rattle.line_grammar.specs.Numbers.{number_word, IsNumberWord}
use Rattle.line_grammar.specs.Values.{IsNumber}
use Rattle.line_grammar.proofs.NumberLaws.{number_word_is, no_small_number}

small_decimal : (n : ℕ) → IsNumber n → number_word n ≡ decimal n
small_decimal n small = number_word_is n (omega (arith, small))

-- a number that was read is the word's
pub found_decimal : (word : List ℕ) (r : Option ℕ)
    → MatchOption r ((n : ℕ) × (2 ^ 32 ≤ n) × (word ≡ number_word n)) (λ n. IsNumber n × (word ≡ number_word n))
    → IfSome r (λ n. word ≡ decimal n)
found_decimal word None h = tt
found_decimal word (Some n) h = h.1 ∙ small_decimal n h.0

none_by : (word : List ℕ) (r : Option ℕ) → IfNone r ((n : ℕ) → IsNumber n → word ≢ number_word n) → IfNone r ((n : ℕ) → IsNumber n → word ≢ decimal n)
none_by word None h = λ n small e. h n small (e ∙ sym (small_decimal n small))
none_by word (Some n) h = tt

-- where none was read the word is no small number's
pub no_decimal : (word : List ℕ) (r : Option ℕ)
    → MatchOption r ((n : ℕ) × (2 ^ 32 ≤ n) × (word ≡ number_word n)) (λ n. IsNumber n × (word ≡ number_word n))
    → IfNone r ((n : ℕ) → IsNumber n → word ≢ decimal n)
no_decimal word r h = none_by word r (no_small_number word r h)

-- nor is a word that isn't a number's
pub no_word : (word : List ℕ) → ¬ IsNumberWord word → (n : ℕ) → IsNumber n → word ≢ decimal n
no_word word other n small e = other (n, e ∙ sym (small_decimal n small))

-- How a number is written.
use Rattle.std.specs.Prelude.{◌≡◌, ℕ, zero, suc, ◌+◌, List, codes, map}
use Rattle.std.specs.Int.Digits.{digits_of}

-- decimal digits without a leading zero, or 0
unfoldable pub number_word : ℕ → List ℕ
number_word zero = codes "0"
number_word (suc n) = map (λ digit. 48 + digit) (digits_of 10 (suc n))

-- the word is some number's digits
abbrev pub IsNumberWord : List ℕ → Type 0
IsNumberWord word = (n : ℕ) × (word ≡ number_word n)

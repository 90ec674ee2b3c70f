-- What clap makes of a word that doesn't begin with a hyphen.
use Rattle.std.proofs.Common.{◌≡◌, ℕ, List, [], ◌∷◌, ap, ◌∙◌}
use Rattle.std.specs.Prelude.{Bool, false, ◌==◌, ◌&&◌, Option, None, Some, if◌then◌else◌, option_and_then}
use Rattle.std.specs.Str.{bytes_eq}
use Rattle.clap.specs.Lexer.{long_of, long_of_rest, short_of, short_of_rest, strip_byte}
use Rattle.clap.specs.Words.{Rule, Text}
use Rattle.clap.specs.Walk.{Held, idle, value, long_or_other, short_or_plain, trailing, word_met}

-- the first byte isn't a hyphen
abbrev pub IsOther : ℕ → Type 0
IsOther d = (d == 45) ≡ false

no_hyphen : (d : ℕ) (ds : Text) → IsOther d → strip_byte 45 (d ∷ ds) ≡ None
no_hyphen d ds e = ap (λ (b : Bool). if b then Some ds else None) e

pub no_long : (d : ℕ) (ds : Text) → IsOther d → long_of (d ∷ ds) ≡ None
no_long d ds e = ap (λ (o : Option Text). option_and_then long_of_rest (option_and_then (strip_byte 45) o)) (no_hyphen d ds e)

pub no_short : (d : ℕ) (ds : Text) → IsOther d → short_of (d ∷ ds) ≡ None
no_short d ds e = ap (option_and_then short_of_rest) (no_hyphen d ds e)

pub no_dashes : (d : ℕ) (ds : Text) → IsOther d → bytes_eq (d ∷ ds) (45 ∷ 45 ∷ []) ≡ false
no_dashes d ds e = ap (λ (b : Bool). b && bytes_eq ds (45 ∷ [])) e

other : (c : List Rule) (d : ℕ) (ds : Text) (h : Held) → IsOther d → long_or_other c idle (d ∷ ds) None h ≡ (h, value)
other c d ds h e = ap (λ (o : Option Text). short_or_plain c idle (d ∷ ds) o h) (no_short d ds e)

long : (c : List Rule) (d : ℕ) (ds : Text) (h : Held) → IsOther d → long_or_other c idle (d ∷ ds) (long_of (d ∷ ds)) h ≡ (h, value)
long c d ds h e = ap (λ (o : Option (Text × Option Text)). long_or_other c idle (d ∷ ds) o h) (no_long d ds e) ∙ other c d ds h e

-- the word is a value
pub met : (c : List Rule) (position d : ℕ) (ds : Text) (h : Held) → IsOther d → word_met c [] false idle position (d ∷ ds) h ≡ (h, value)
met c position d ds h e =
    ap (λ (b : Bool). if b then (h, trailing position) else long_or_other c idle (d ∷ ds) (long_of (d ∷ ds)) h) (no_dashes d ds e) ∙ long c d ds h e

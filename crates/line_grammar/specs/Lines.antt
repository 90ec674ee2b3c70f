-- A text as lines of words.
use Rattle.std.specs.Prelude.{◌≡◌, ◌≢◌, ◌⊎◌, ℕ, List, [], ◌∷◌, ◌++◌}
use Rattle.std.specs.List.{join_with_byte}

-- no byte of the text is this one
abbrev pub Lacks : ℕ → List ℕ → Type 0
Lacks byte [] = Unit {0}
Lacks byte (b ∷ bs) = (b ≢ byte) × Lacks byte bs

-- the words of a line parted by single spaces
abbrev pub spaced : List (List ℕ) → List ℕ
spaced words = join_with_byte 32 words

-- a line with the line feed that ends it
abbrev pub line : List (List ℕ) → List ℕ
line words = spaced words ++ 10 ∷ []

-- the word is the text up to its first space
abbrev pub IsFirstWord : List ℕ → List ℕ → Type 0
IsFirstWord text word =
    Lacks 32 word × ((text ≡ word) ⊎ ((rest : List ℕ) × (text ≡ word ++ 32 ∷ rest)))

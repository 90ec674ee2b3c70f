-- What reading a text shows.
use Rattle.std.specs.Prelude.{◌≡◌, ◌≢◌, ◌⊎◌, ℕ, List, [], ◌∷◌, ◌++◌, Result, Ok, Err, ⊤}
use Rattle.line_grammar.specs.Lines.{Lacks}
use Rattle.transcript_read.specs.declared.field.Unread.{Unread}
use Rattle.transcript_read.specs.declared.field.Unread.TheVariants.{Syntax, OutOfMemory}

-- the text was refused for this; want of memory says nothing of it
abbrev pub Refuses : Unread → Type 0 → Type 0
Refuses Syntax reason = reason
Refuses OutOfMemory reason = ⊤

-- a value was read from its text, or no value has this text
abbrev pub Reads :
    {A : Type 0} → (A → Type 0) → (A → List ℕ) → List ℕ → Result A Unread → Type 0
Reads IsValue text_of text (Ok value) = IsValue value × (text ≡ text_of value)
Reads {A} IsValue text_of text (Err why) =
    Refuses why ((value : A) → IsValue value → text ≢ text_of value)

-- the word is the text up to its first space, and the rest goes on from that space
abbrev pub IsWordFront : List ℕ → List ℕ → List ℕ → Type 0
IsWordFront text word rest =
    (text ≡ word ++ rest) × Lacks 32 word × ((rest ≡ []) ⊎ ((more : List ℕ) × (rest ≡ 32 ∷ more)))

-- An input of entries: a line for each chunk, which is a dash or spells bytes.
use Rattle.std.specs.Prelude.{◌≡◌, ◌≢◌, ◌⊎◌, ℕ, List, length, Option, Vec, codes}
use Rattle.std.specs.declared.alloc.Global.{Global}
use Rattle.line_grammar.specs.ChunkEntries.{lines_of, AreEntries, HasNoEntry, HasOtherLength, AreLong, parts_of}

-- the input's lines are so many entries, and those that are there have so many bytes
pub record AreRead (count len : ℕ) (input : List ℕ) (entries : List (Option (Vec ℕ Global))) : Type 0 where
  pub many : length entries ≡ count
  pub spelled : AreEntries (lines_of input) (parts_of entries)
  pub long : AreLong len entries

-- another number of lines, or of bytes in a line where every line is a dash or digits
abbrev pub HasOtherCount : ℕ → ℕ → List ℕ → Type 0
HasOtherCount count len input = (length (lines_of input) ≢ count) ⊎ HasOtherLength len (lines_of input)

-- as many lines as chunks, and one that is neither a dash nor digits
abbrev pub HasOtherLine : ℕ → List ℕ → Type 0
HasOtherLine count input = (length (lines_of input) ≡ count) × HasNoEntry (lines_of input)

-- the line for an input that can't be read, or one of further causes where it can
abbrev pub AreRefused : ℕ → ℕ → (List ℕ → Type 0) → List ℕ → List ℕ → Type 0
AreRefused count len Further input output =
    (HasOtherCount count len input × (output ≡ codes "data refused length\n"))
    ⊎ (HasOtherLine count input × (output ≡ codes "data refused hex\n"))
    ⊎ Further output

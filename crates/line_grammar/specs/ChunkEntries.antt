-- Some of the chunks as lines: of a missing one a dash, of the others hexadecimal digits.
use Rattle.std.specs.Prelude.{◌≡◌, ◌≢◌, ℕ, ◌<◌, ◌==◌, List, [], ◌∷◌, map, length, slice_index_or, Option, None, Some, Ok, Vec, All, IfSome, codes, if◌then◌else◌}
use Rattle.std.specs.Option.{option_map}
use Rattle.std.specs.declared.alloc.Global.{Global}
use Rattle.hex.specs.Hex.{decode_of}
use Rattle.line_grammar.specs.StripeLines.{line_of}

-- a byte before the first piece
abbrev pub onto_first : ℕ → List (List ℕ) → List (List ℕ)
onto_first byte [] = (byte ∷ []) ∷ []
onto_first byte (piece ∷ pieces) = (byte ∷ piece) ∷ pieces

-- a text cut after each LF
abbrev pub pieces_of : List ℕ → List (List ℕ)
pieces_of [] = []
pieces_of (byte ∷ text) = if byte == 10 then (byte ∷ []) ∷ pieces_of text else onto_first byte (pieces_of text)

-- the lines of a text, each without the LF, or the CR and LF, at its end
abbrev pub lines_of : List ℕ → List (List ℕ)
lines_of text = map line_of (pieces_of text)

-- the line says that a chunk is missing, or spells its bytes
abbrev pub IsEntry : List ℕ → Option (List ℕ) → Type 0
IsEntry line None = line ≡ codes "-"
IsEntry line (Some bytes) = (line ≢ codes "-") × (decode_of line ≡ Ok bytes)

-- the line is neither a dash nor an even number of digits
abbrev pub IsNoEntry : List ℕ → Type 0
IsNoEntry line = (line ≢ codes "-") × ((bytes : List ℕ) → decode_of line ≢ Ok bytes)

-- the bytes of each chunk that is there
abbrev pub parts_of : List (Option (Vec ℕ Global)) → List (Option (List ℕ))
parts_of entries = map (option_map (λ v. v.items)) entries

-- each line says what the entry at its place is
pub record AreEntries (lines : List (List ℕ)) (entries : List (Option (List ℕ))) : Type 0 where
  pub count : length entries ≡ length lines
  pub each : (i : ℕ) → i < length lines → IsEntry (slice_index_or lines i []) (slice_index_or entries i None)

-- some line is neither a dash nor an even number of digits
pub record HasNoEntry (lines : List (List ℕ)) : Type 0 where
  pub place : ℕ
  pub within : place < length lines
  pub nothing : IsNoEntry (slice_index_or lines place [])

-- each chunk that is there has so many bytes
abbrev pub AreLong : ℕ → List (Option (Vec ℕ Global)) → Type 0
AreLong len entries = All (λ entry. IfSome entry (λ v. length v.items ≡ len)) entries

-- each line is an entry, and some chunk that is there has another number of bytes
pub record HasOtherLength (len : ℕ) (lines : List (List ℕ)) : Type 0 where
  pub entries : List (Option (Vec ℕ Global))
  pub are : AreEntries lines (parts_of entries)
  pub other : AreLong len entries → ⊥

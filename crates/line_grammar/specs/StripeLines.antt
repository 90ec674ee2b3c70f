-- Chunks as lines of hexadecimal digits.
use Rattle.std.specs.Prelude.{◌≡◌, ◌≢◌, ℕ, ◌-◌, Bool, ◌&&◌, nat_lt, ◌==◌, List, [], ◌∷◌, ◌++◌, length, take, slice_index, if◌then◌else◌, Ok}
use Rattle.std.specs.List.{flat_map}
use Rattle.hex.specs.Hex.{encode_lower, decode_of}

-- the last byte is this one
abbrev pub ends_with : ℕ → List ℕ → Bool
ends_with byte text = nat_lt 0 (length text) && slice_index text (length text - 1) == byte

abbrev pub without_last : List ℕ → List ℕ
without_last text = take (length text - 1) text

-- a line without the LF, or the CR and LF, at its end
abbrev pub line_of : List ℕ → List ℕ
line_of text =
    if ends_with 10 text
    then (if ends_with 13 (without_last text) then without_last (without_last text) else without_last text)
    else text

-- the line is an even number of digits, in either case, and they spell these bytes
abbrev pub Spells : List ℕ → List ℕ → Type 0
Spells text bytes = decode_of (line_of text) ≡ Ok bytes

abbrev pub SpellsNothing : List ℕ → Type 0
SpellsNothing text = (bytes : List ℕ) → decode_of (line_of text) ≢ Ok bytes

-- a line of lower-case digits for each chunk
abbrev pub chunk_lines : List (List ℕ) → List ℕ
chunk_lines chunks = flat_map (λ chunk. encode_lower chunk ++ 10 ∷ []) chunks

-- What `chunks` and `chunksd` print for their input.
use Rattle.std.specs.Prelude.{◌≡◌, ◌≢◌, ◌⊎◌, ℕ, List, length, codes}
use Rattle.clay_grid.specs.Shape.{Shape, stripe_length}
use Rattle.clay_model.specs.Code.{Codes}
use Rattle.clay_aloof.specs.Shape.{AloofShape, stripe_bytes}
use Rattle.clay_aloof.specs.Code.{Codes as CodesAloof}
use Rattle.line_grammar.specs.StripeLines.{Spells, SpellsNothing, chunk_lines}

-- the lines of the chunks that code the stripe which the input spells
abbrev pub AreChunkLines : (List ℕ → List (List ℕ) → Type 0) → List ℕ → List ℕ → Type 0
AreChunkLines Coded input output =
    (stripe : List ℕ) × (chunks : List (List ℕ)) × Spells input stripe × Coded stripe chunks × (output ≡ chunk_lines chunks)

-- the input isn't digits
abbrev pub IsHexLine : List ℕ → List ℕ → Type 0
IsHexLine input output = SpellsNothing input × (output ≡ codes "data refused hex\n")

-- the input spells bytes, which aren't as many as a stripe's
abbrev pub IsLengthLine : ℕ → List ℕ → List ℕ → Type 0
IsLengthLine len input output =
    (bytes : List ℕ) × Spells input bytes × (length bytes ≢ len) × (output ≡ codes "data refused length\n")

-- the input isn't a stripe of so many bytes
abbrev pub IsNoStripe : ℕ → List ℕ → List ℕ → Type 0
IsNoStripe len input output = IsHexLine input output ⊎ IsLengthLine len input output

abbrev pub IsChunkLines : Shape → List ℕ → List ℕ → Type 0
IsChunkLines g input output = AreChunkLines (Codes g) input output

abbrev pub IsDataRefused : Shape → List ℕ → List ℕ → Type 0
IsDataRefused g input output = IsNoStripe (stripe_length g) input output

abbrev pub IsAloofLines : AloofShape → List ℕ → List ℕ → Type 0
IsAloofLines a input output = AreChunkLines (CodesAloof a) input output

abbrev pub IsAloofRefused : AloofShape → List ℕ → List ℕ → Type 0
IsAloofRefused a input output = IsNoStripe (stripe_bytes a) input output

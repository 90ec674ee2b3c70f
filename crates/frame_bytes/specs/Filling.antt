-- What filling a buffer takes from a source.
use Rattle.std.specs.Prelude.{◌≡◌, ◌<◌, ℕ, Option, None, Some, List, length, take, drop}
use Rattle.clay_bytes.specs.Stream.{Gives, HandsOut}

-- these are the first of the bytes that were left, so many or as many as there were; they were taken
abbrev pub Fills : Option (List ℕ) → ℕ → List ℕ → Option (List ℕ) → Type 0
Fills None wanted got new = Unit {0}
Fills (Some bytes) wanted got None = ⊥
Fills (Some bytes) wanted got (Some rest) = (got ≡ take wanted bytes) × (rest ≡ drop wanted bytes)

-- fewer bytes than so many were taken
abbrev pub GivesFewer : Option (List ℕ) → ℕ → Option (List ℕ) → Type 0
GivesFewer old n new = (got : List ℕ) × (length got < n) × Gives old got new

-- the same, of what the source has handed out
abbrev pub HandsOutFewer : List ℕ → Option (List ℕ) → ℕ → List ℕ → Option (List ℕ) → Type 0
HandsOutFewer given left n now rest = (got : List ℕ) × (length got < n) × HandsOut given left got now rest

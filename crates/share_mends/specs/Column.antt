-- The shares whose nodes stand in the lost one's column.
use Rattle.std.specs.Prelude.{◌≡◌, ◌≢◌, ℕ, ◌/◌, ◌<◌, Bool, false, List}
use Rattle.clay_aloof.specs.Shape.{AloofShape, rows_of, node_of}
use Rattle.share_mends.specs.Asked.{helps}

-- another share of the lost one's column doesn't help
abbrev pub IsGap : AloofShape → ℕ → List Bool → ℕ → Type 0
IsGap a lost marks c = (c ≢ lost) × (node_of a c / rows_of a ≡ node_of a lost / rows_of a) × (helps marks c ≡ false)

-- no share below count is one
abbrev pub HasColumn : AloofShape → ℕ → List Bool → ℕ → Type 0
HasColumn a lost marks count = (c : ℕ) → c < count → ¬ IsGap a lost marks c

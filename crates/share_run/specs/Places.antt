-- Places that were filled.
use Rattle.std.specs.Prelude.{◌≡◌, ℕ, ◌+◌, ◌⊎◌, List, [], ◌∷◌}
use Rattle.clay_bytes.specs.Stream.{Rises}

-- a file was put into the place of a number
pub record Filled : Type 0 where
  pub place : ℕ
  pub bytes : List ℕ

abbrev pub filled : ℕ → List ℕ → Filled
filled place bytes = record { place = place; bytes = bytes }

-- some files were put into places in a row, from a number on
abbrev pub filled_from : ℕ → List (List ℕ) → List Filled
filled_from place [] = []
filled_from place (bytes ∷ files) = filled place bytes ∷ filled_from (place + 1) files

-- what was put into places, and how many calls of them failed
pub record Kept : Type 0 where
  pub files : List Filled
  pub faults : ℕ

abbrev pub kept : List Filled → ℕ → Kept
kept files faults = record { files = files; faults = faults }

-- nothing was put into any place
abbrev pub IsUntouched : Kept → Kept → Type 0
IsUntouched before after = after.files ≡ before.files

-- a write beside a place failed, and no place refused its file; or no write failed, and a place did: by the counts of failed writes
abbrev pub IsUnwritten : ℕ → ℕ → Kept → Kept → Type 0
IsUnwritten writes written before after =
    (Rises writes written × (after.faults ≡ before.faults)) ⊎ ((written ≡ writes) × Rises before.faults after.faults)

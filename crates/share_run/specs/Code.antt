-- The code of a cut.
use Rattle.std.specs.Prelude.{◌≡◌, ◌<◌, ◌≤◌, ◌⊎◌, ◌+◌, ◌-◌, ◌^◌, ℕ, min, unwrap_or, MatchOption}
use Rattle.clay_grid.specs.Shape.{chunk_length}
use Rattle.clay_aloof.specs.Shape.{AloofShape, aloof_of, grid_of, stripe_bytes}
use Rattle.share_run.specs.declared.code.CodeAsked.{CodeAsked}

-- all other chunks help where no number of helpers is given, as far as 32 bits count them
abbrev pub helpers_asked : CodeAsked → ℕ
helpers_asked asked = unwrap_or asked.helpers (min (asked.k + asked.m) (2 ^ 32 - 1) - 1)

-- the code with subchunks of so many bytes
abbrev pub code_with : CodeAsked → ℕ → AloofShape
code_with asked width = aloof_of asked.k asked.m (helpers_asked asked) width

-- a subchunk within a page of memory, of a chunk within its limit
abbrev pub FitsPage : AloofShape → Type 0
FitsPage a = (a.width ≤ 4096) × (chunk_length (grid_of a) ≤ 1048576)

-- the narrowest subchunks with which one stripe holds a file of so many bytes; the widest that fit, where none that fit do
pub record IsForFile (asked : CodeAsked) (size width : ℕ) : Type 0 where
  pub some : 1 ≤ width
  pub fits : FitsPage (code_with asked width)
  pub enough : (size ≤ stripe_bytes (code_with asked width)) ⊎ ((wider : ℕ) → FitsPage (code_with asked wider) → wider ≤ width)
  pub least : (narrower : ℕ) → 1 ≤ narrower → narrower < width → stripe_bytes (code_with asked narrower) < size

-- the code for a file of so many bytes: of the width that was given, or else of the one for the file
abbrev pub IsCodeFor : CodeAsked → ℕ → AloofShape → Type 0
IsCodeFor asked size a = (width : ℕ) × (a ≡ code_with asked width) × MatchOption asked.width (IsForFile asked size width) (λ given. width ≡ given)

-- the width that a refusal is judged by: the one given, or else a byte
abbrev pub least_width : CodeAsked → ℕ
least_width asked = unwrap_or asked.width 1

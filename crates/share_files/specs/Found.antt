-- The blocks that are found in a share's file.
use Rattle.std.specs.Prelude.{◌≡◌, ℕ, ◌<◌, Bool, true, false, List, take, drop, Option, Some, None}
use Rattle.clay_aloof.specs.Shape.{AloofShape}
use Rattle.share_format.specs.Blocks.{block_length, IsBlock}
use Rattle.share_format.specs.Shares.{block_start}

-- what a file has in the place of stripe i's block
abbrev pub block_in : AloofShape → ℕ → List ℕ → List ℕ
block_in a i file = take (block_length a) (drop (block_start a i) file)

-- it was told whether these bytes are a block, and where they are, they stand in a room for it
abbrev pub IsTold : AloofShape → List ℕ → List ℕ → Bool → Type 0
IsTold a bytes room true = (room ≡ bytes) × IsBlock a bytes
IsTold a bytes room false = ¬ IsBlock a bytes

-- each of the first so many stripes has its block in the file, or this is the first that has not
abbrev pub IsFirstRotten : AloofShape → ℕ → List ℕ → Option ℕ → Type 0
IsFirstRotten a count file None = (i : ℕ) → i < count → IsBlock a (block_in a i file)
IsFirstRotten a count file (Some rotten) =
    (rotten < count) × ¬ IsBlock a (block_in a rotten file) × ((i : ℕ) → i < rotten → IsBlock a (block_in a i file))

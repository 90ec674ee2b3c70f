-- What a mend reads of each helper's share file, and what it writes.
use Rattle.std.specs.Prelude.{◌≡◌, ℕ, ◌+◌, ◌*◌, ◌<◌, nat_eq, List, [], ◌∷◌, ◌++◌, map, take, drop, length, get_or, Option, Vec, if◌then◌else◌}
use Rattle.std.specs.List.{flat_map, range_with_len}
use Rattle.std.specs.declared.alloc.Global.{Global}
use Rattle.clay_model.specs.RepairParts.{subchunks_at}
use Rattle.clay_aloof.specs.Shape.{AloofShape}
use Rattle.clay_aloof.specs.Repair.{aloof_layers_of, HasParts, IsRebuilt}
use Rattle.share_format.specs.Cut.{stripe_count}
use Rattle.share_format.specs.Blocks.{page_of, rounded, aligned, table_of, chunk_start}
use Rattle.share_format.specs.Header.{header_bytes}
use Rattle.share_format.specs.Shares.{header_of, block_start}

-- the bytes of a file from a place on
pub record Range : Type 0 where
  pub start : ℕ
  pub size : ℕ

abbrev pub range_of : ℕ → ℕ → Range
range_of start size = record { start = start; size = size }

-- a range before others, as one with the first of them where that begins at its end
abbrev pub before : Range → List Range → List Range
before range [] = range ∷ []
before range (next ∷ rest) =
    if nat_eq (range.start + range.size) next.start then range_of range.start (range.size + next.size) ∷ rest else range ∷ next ∷ rest

-- ranges in a row, neighbours as one
abbrev pub joined : List Range → List Range
joined [] = []
joined (range ∷ ranges) = before range (joined ranges)

-- of stripe i's block the table, and the subchunks of the layers that a repair of the lost share's chunk reads
abbrev pub block_ranges : AloofShape → ℕ → ℕ → List Range
block_ranges a lost i =
    range_of (block_start a i) (chunk_start a)
    ∷ map (λ layer. range_of (block_start a i + chunk_start a + layer * a.width) a.width) (aloof_layers_of a lost)

-- of a share file the header, and these of each block
abbrev pub mend_ranges : AloofShape → ℕ → ℕ → List Range
mend_ranges a lost size =
    joined (range_of 0 (rounded (page_of a) 64) ∷ flat_map (block_ranges a lost) (range_with_len 0 (stripe_count a size)))

-- the bytes of a file in some ranges
abbrev pub bytes_in : List Range → List ℕ → List ℕ
bytes_in ranges bytes = flat_map (λ range. take range.size (drop range.start bytes)) ranges

-- what a mend reads of a share with these chunks: the header, and of each block the table and the chunk's part
abbrev pub mend_bytes : AloofShape → ℕ → List ℕ → ℕ → List (List ℕ) → List ℕ
mend_bytes a lost file number chunks =
    aligned a (header_bytes (header_of a file number))
    ++ flat_map (λ chunk. aligned a (table_of a chunk) ++ subchunks_at a.width chunk (aloof_layers_of a lost)) chunks

-- a stripe's chunk is rebuilt from parts of the helpers' chunks
pub record IsMendedFrom (a : AloofShape) (lost : ℕ) (word : List (List ℕ)) (chunk : List ℕ) : Type 0 where
  pub have : List (Option (Vec ℕ Global))
  pub parts : HasParts a lost have word
  pub rebuilt : IsRebuilt a lost have chunk

-- and so is each stripe's
pub record AreMendedFrom (a : AloofShape) (lost : ℕ) (words : List (List (List ℕ))) (chunks : List (List ℕ)) : Type 0 where
  pub count : length chunks ≡ length words
  pub each : (i : ℕ) → i < length words → IsMendedFrom a lost (get_or words i []) (get_or chunks i [])

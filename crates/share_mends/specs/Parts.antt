-- The parts that a mend reads of the helpers' shares.
use Rattle.std.specs.Prelude.{◌≡◌, ℕ, ◌+◌, List, length, take, drop, Option, Some, None, Vec}
use Rattle.std.specs.declared.alloc.Global.{Global}
use Rattle.clay_aloof.specs.Shape.{AloofShape}
use Rattle.clay_aloof.specs.Repair.{aloof_layers_of, part_bytes}
use Rattle.share_format.specs.Blocks.{chunk_start}
use Rattle.share_format.specs.Mend.{block_ranges, bytes_in}
use Rattle.share_format.specs.Parts.{IsIntactPart}

-- what a file has in the ranges that a mend of the lost share reads of stripe i's block: the table, and the chunk's part behind it
abbrev pub piece_in : AloofShape → ℕ → ℕ → List ℕ → List ℕ
piece_in a lost i file = bytes_in (block_ranges a lost i) file

-- all these bytes are there, and each subchunk has the checksum that the table has for it
pub record IsGoodPiece (a : AloofShape) (lost : ℕ) (piece : List ℕ) : Type 0 where
  pub size : length piece ≡ chunk_start a + part_bytes a
  pub intact : IsIntactPart a (aloof_layers_of a lost) (take (chunk_start a) piece) (drop (chunk_start a) piece)

-- the part of a good piece, or that a piece isn't good
abbrev pub IsFoundPart : AloofShape → ℕ → List ℕ → Option (Vec ℕ Global) → Type 0
IsFoundPart a lost piece None = ¬ IsGoodPiece a lost piece
IsFoundPart a lost piece (Some part) = (part.items ≡ drop (chunk_start a) piece) × IsGoodPiece a lost piece

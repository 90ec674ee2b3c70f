-- A lost share's chunks, rebuilt from the shares' blocks, its own too where they pass.
use Rattle.std.specs.Prelude.{◌≡◌, ℕ, ◌<◌, List, length, Option, Vec}
use Rattle.std.specs.declared.alloc.Global.{Global}
use Rattle.clay_grid.specs.Shape.{chunk_length}
use Rattle.clay_aloof.specs.Shape.{AloofShape, grid_of}
use Rattle.share_format.specs.Blocks.{block_of}
use Rattle.share_format.specs.Joined.{IsRecoveredChunk}
use Rattle.share_files.specs.Seen.{Seen, Show}
use Rattle.share_files.specs.Missed.{LackBlocks}
use Rattle.share_files.specs.Stripes.{AreBlocksOf}
use Rattle.share_mends.specs.declared.rebuilding.RebuildFault.{RebuildFault}
use Rattle.share_mends.specs.declared.rebuilding.RebuildFault.TheVariants.{TooFew, WriteFault, OutOfMemory}

-- a chunk is recovered from the blocks of stripe i: it is the lost one of each codeword that has them, and some bytes where none
-- has. All blocks count
pub record IsChunkOf (a : AloofShape) (lost i : ℕ) (files : List (List ℕ)) (olds news : List Seen) (chunk : List ℕ) : Type 0 where
  pub blocks : List (Option (Vec ℕ Global))
  pub are : AreBlocksOf a i (λ c. Unit {0}) files olds news blocks
  pub recovered : IsRecoveredChunk a blocks lost chunk

-- so it is in whatever files the sources show
pub record IsRebuilt (a : AloofShape) (lost : ℕ) (olds news : List Seen) (i : ℕ) (chunk : List ℕ) : Type 0 where
  pub long : length chunk ≡ chunk_length (grid_of a)
  pub from : (files : List (List ℕ)) → Show news files → IsChunkOf a lost i files olds news chunk

-- the block of such a chunk
pub record IsRebuiltBlock (a : AloofShape) (lost : ℕ) (olds news : List Seen) (i : ℕ) (block : List ℕ) : Type 0 where
  pub chunk : List ℕ
  pub rebuilt : IsRebuilt a lost olds news i chunk
  pub value : block ≡ block_of a chunk

-- stripe i's block is missing of too many shares, whatever files the sources show
abbrev pub Lacks : AloofShape → List Seen → List Seen → ℕ → RebuildFault → Type 0
Lacks a olds news i (TooFew stripe) = (stripe ≡ i) × ((files : List (List ℕ)) → Show news files → LackBlocks a i files olds news)
Lacks a olds news i WriteFault = Unit {0}
Lacks a olds news i OutOfMemory = Unit {0}

-- so is that of one of the first so many stripes
abbrev pub IsLack : AloofShape → ℕ → List Seen → List Seen → RebuildFault → Type 0
IsLack a count olds news (TooFew stripe) = (stripe < count) × ((files : List (List ℕ)) → Show news files → LackBlocks a stripe files olds news)
IsLack a count olds news WriteFault = Unit {0}
IsLack a count olds news OutOfMemory = Unit {0}

-- A stripe from the blocks of some of its chunks.
use Rattle.std.specs.Prelude.{◌≡◌, ℕ, ◌<◌, Bool, List, [], get_or, drop, replicate, Option, Some, None, is_none, Vec}
use Rattle.std.specs.declared.alloc.Global.{Global}
use Rattle.clay_grid.specs.Shape.{chunk_length}
use Rattle.clay_grid.specs.Score.{count_below}
use Rattle.clay_aloof.specs.Shape.{AloofShape, all_chunks, grid_of}
use Rattle.clay_aloof.specs.Code.{IsCodeword, Codes}
use Rattle.clay_aloof.specs.Recovered.{chunk_in}
use Rattle.share_format.specs.Blocks.{block_of, chunk_start}

-- whether block c is missing
abbrev pub is_lost : List (Option (Vec ℕ Global)) → ℕ → Bool
is_lost blocks c = is_none (get_or blocks c None)

-- more blocks are missing than there are parity chunks
abbrev pub AreTooFew : AloofShape → List (Option (Vec ℕ Global)) → Type 0
AreTooFew a blocks = a.parity_count < count_below (all_chunks a) (is_lost blocks)

-- the blocks that are there are those of the word's chunks
abbrev pub HasBlocks : AloofShape → List (Option (Vec ℕ Global)) → List (List ℕ) → Type 0
HasBlocks a blocks word = (c : ℕ) (block : Vec ℕ Global) → get_or blocks c None ≡ Some block → block.items ≡ block_of a (get_or word c [])

-- bytes are each stripe whose codeword has these blocks
abbrev pub IsJoined : AloofShape → List (Option (Vec ℕ Global)) → List ℕ → Type 0
IsJoined a blocks bytes = (stripe : List ℕ) (word : List (List ℕ)) → Codes a stripe word → HasBlocks a blocks word → bytes ≡ stripe

-- the first chunks, one behind another, are those of each codeword that has these blocks
abbrev pub AreChunksOf : AloofShape → List (Option (Vec ℕ Global)) → ℕ → List ℕ → Type 0
AreChunksOf a blocks count chunks =
    (word : List (List ℕ)) → IsCodeword a word → HasBlocks a blocks word → (c : ℕ) → c < count → chunk_in a chunks c ≡ get_or word c []

-- a chunk is that of each codeword that has these blocks
abbrev pub IsRecoveredChunk : AloofShape → List (Option (Vec ℕ Global)) → ℕ → List ℕ → Type 0
IsRecoveredChunk a blocks c chunk = (word : List (List ℕ)) → IsCodeword a word → HasBlocks a blocks word → chunk ≡ get_or word c []

-- the chunk in a block, and zeros where it is missing
abbrev pub chunk_or_zeros : AloofShape → Option (Vec ℕ Global) → List ℕ
chunk_or_zeros a None = replicate (chunk_length (grid_of a)) 0
chunk_or_zeros a (Some block) = drop (chunk_start a) block.items

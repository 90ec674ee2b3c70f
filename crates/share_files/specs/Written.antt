-- What stands in share files that are being written.
use Rattle.std.specs.Prelude.{◌≡◌, ℕ, ◌*◌, ◌<◌, ◌≤◌, List, [], ◌∷◌, ◌++◌, length, drop, get_or}
use Rattle.std.specs.List.{flat_map}
use Rattle.crc64.specs.Remainder.{checksum_of}
use Rattle.clay_bytes.specs.Stream.{Rises}
use Rattle.clay_grid.specs.Shape.{chunk_length}
use Rattle.clay_aloof.specs.Shape.{AloofShape, all_chunks, grid_of}
use Rattle.clay_aloof.specs.Code.{Codes}
use Rattle.share_format.specs.Blocks.{page_of, rounded, block_of, block_length}
use Rattle.share_format.specs.Shares.{share_with}

-- behind the header's place a file has the blocks of these chunks and no more
pub record HasBlocks (a : AloofShape) (chunks : List (List ℕ)) (file : List ℕ) : Type 0 where
  pub size : length (flat_map (block_of a) chunks) ≡ length chunks * block_length a
  pub blocks : drop (rounded (page_of a) 64) file ≡ flat_map (block_of a) chunks

-- a file that has the blocks of so many chunks has this one behind them afterwards
pub record GainsBlock (a : AloofShape) (stripe : ℕ) (block old new : List ℕ) : Type 0 where
  pub behind : (chunks : List (List ℕ)) (chunk : List ℕ) → block ≡ block_of a chunk → length chunk ≡ chunk_length (grid_of a) →
      length chunks ≡ stripe → HasBlocks a chunks old → HasBlocks a (chunks ++ chunk ∷ []) new

-- a share's file that has the blocks of a file of this length and checksum is the whole share afterwards
pub record GainsHeader (a : AloofShape) (size checksum number : ℕ) (old new : List ℕ) : Type 0 where
  pub whole : (file : List ℕ) (chunks : List (List ℕ)) → length file ≡ size → checksum_of file ≡ checksum → HasBlocks a chunks old →
      new ≡ share_with a file number chunks

-- the first so many of some files have changed, each as its number says, and the others are as they were
pub record AreChanged (Change : ℕ → List ℕ → List ℕ → Type 0) (count : ℕ) (olds news : List (List ℕ)) : Type 0 where
  pub changed : (c : ℕ) → c < count → Change c (get_or olds c []) (get_or news c [])
  pub others : (c : ℕ) → count ≤ c → get_or news c [] ≡ get_or olds c []

-- each of the shares' files gains its block of a stripe
pub record GainStripe (a : AloofShape) (number : ℕ) (stripe : List ℕ) (olds news : List (List ℕ)) : Type 0 where
  pub word : List (List ℕ)
  pub codes : Codes a stripe word
  pub gain : (c : ℕ) → c < all_chunks a → GainsBlock a number (block_of a (get_or word c [])) (get_or olds c []) (get_or news c [])

-- the count of one of these rose
pub record OneRises (olds news : List ℕ) : Type 0 where
  pub place : ℕ
  pub rises : Rises (get_or olds place 0) (get_or news place 0)

-- What is put into a share's file, block by block and the header at last. Which chunks the blocks are of, the caller says for each stripe.
use Rattle.std.specs.Prelude.{◌≡◌, ℕ, ◌*◌, ◌<◌, ◌≤◌, ◌⊎◌, List, [], ◌++◌, length, take, drop, get_or}
use Rattle.std.specs.List.{flat_map}
use Rattle.file_bytes.specs.Places.{Placed, placed_from}
use Rattle.file_bytes.specs.Laid.{laid_over, PutsFewer}
use Rattle.clay_grid.specs.Shape.{chunk_length}
use Rattle.clay_aloof.specs.Shape.{AloofShape, grid_of}
use Rattle.share_format.specs.Cut.{stripe_count}
use Rattle.share_format.specs.Blocks.{aligned, block_of, block_length}
use Rattle.share_format.specs.Header.{Header, header_bytes}
use Rattle.share_format.specs.Shares.{block_start, IsShare}

-- a sink took the block of such a chunk in stripe i's place
pub record PutsBlock (a : AloofShape) (Is : ℕ → List ℕ → Type 0) (i : ℕ) (put now : List Placed) : Type 0 where
  pub chunk : List ℕ
  pub is : Is i chunk
  pub size : length chunk ≡ chunk_length (grid_of a)
  pub puts : now ≡ put ++ placed_from (block_start a i) (block_of a chunk)

-- or fewer bytes of it, from its front
pub record PutsLess (a : AloofShape) (Is : ℕ → List ℕ → Type 0) (i : ℕ) (put now : List Placed) : Type 0 where
  pub chunk : List ℕ
  pub is : Is i chunk
  pub size : length chunk ≡ chunk_length (grid_of a)
  pub less : PutsFewer put (block_start a i) (block_of a chunk) now

-- or nothing
abbrev pub PutsAtMost : AloofShape → (ℕ → List ℕ → Type 0) → ℕ → List Placed → List Placed → Type 0
PutsAtMost a Is i put now = PutsLess a Is i put now ⊎ (now ≡ put)

-- it took such blocks of the first so many stripes, one behind another
pub record PutsBlocks (a : AloofShape) (Is : ℕ → List ℕ → Type 0) (count : ℕ) (put now : List Placed) : Type 0 where
  pub chunks : List (List ℕ)
  pub number : length chunks ≡ count
  pub are : (i : ℕ) → i < length chunks → Is i (get_or chunks i [])
  pub size : length (flat_map (block_of a) chunks) ≡ count * block_length a
  pub puts : now ≡ put ++ placed_from (block_start a 0) (flat_map (block_of a) chunks)

-- it took so many bytes of such blocks of no more than so many first stripes
pub record PutsSome (a : AloofShape) (Is : ℕ → List ℕ → Type 0) (count : ℕ) (put now : List Placed) : Type 0 where
  pub chunks : List (List ℕ)
  pub number : length chunks ≤ count
  pub are : (i : ℕ) → i < length chunks → Is i (get_or chunks i [])
  pub bytes : ℕ
  pub puts : now ≡ put ++ placed_from (block_start a 0) (take bytes (flat_map (block_of a) chunks))

-- it took all blocks and then fewer bytes of the padded header than there are, from its front
pub record PutsHead (h : Header) (Is : ℕ → List ℕ → Type 0) (put now : List Placed) : Type 0 where
  pub middle : List Placed
  pub blocks : PutsBlocks h.shape Is (stripe_count h.shape h.size) put middle
  pub less : PutsFewer middle 0 (aligned h.shape (header_bytes h)) now

-- it took a part of a share: bytes of its blocks from their front, or all and a part of the padded header
abbrev pub PutsPart : Header → (ℕ → List ℕ → Type 0) → List Placed → List Placed → Type 0
PutsPart h Is put now = PutsSome h.shape Is (stripe_count h.shape h.size) put now ⊎ PutsHead h Is put now

-- bytes are the padded header, and behind it the blocks of such chunks, one for each stripe
pub record HasChunks (h : Header) (Is : ℕ → List ℕ → Type 0) (bytes : List ℕ) : Type 0 where
  pub chunks : List (List ℕ)
  pub number : length chunks ≡ stripe_count h.shape h.size
  pub are : (i : ℕ) → i < length chunks → Is i (get_or chunks i [])
  pub value : bytes ≡ aligned h.shape (header_bytes h) ++ flat_map (block_of h.shape) chunks

-- it took such bytes: whatever stood there before begins with them then, and goes on as it did
pub record PutsFile (Is : List ℕ → Type 0) (put now : List Placed) : Type 0 where
  pub bytes : List ℕ
  pub is : Is bytes
  pub more : List Placed
  pub puts : now ≡ put ++ more
  pub laid : (before : List ℕ) → laid_over before more ≡ bytes ++ drop (length bytes) before

-- a share of a file
abbrev pub PutsShare : AloofShape → List ℕ → ℕ → List Placed → List Placed → Type 0
PutsShare a file number put now = PutsFile (IsShare a file number) put now

-- Which blocks are missing, and which shares lack them.
use Rattle.std.specs.Prelude.{◌≡◌, ℕ, ◌+◌, ◌<◌, ◌≤◌, ◌⊎◌, Bool, true, false, All, List, [], ◌∷◌, ◌++◌, get_or, Option, Some, None}
use Rattle.clay_grid.specs.Score.{count_below}
use Rattle.clay_aloof.specs.Shape.{AloofShape, all_chunks}
use Rattle.share_format.specs.Blocks.{block_length, IsBlock}
use Rattle.share_format.specs.Shares.{block_start}
use Rattle.share_files.specs.Found.{block_in}
use Rattle.share_files.specs.Seen.{Seen, seen_of, failed_since}
use Rattle.share_files.specs.Asked.{IsIn, IsAskedAt}

-- the first stripe at which a share's block was missed, after one more
abbrev pub missed_after : Option ℕ → ℕ → Bool → Option ℕ
missed_after (Some first) stripe lost = Some first
missed_after None stripe true = Some stripe
missed_after None stripe false = None

-- reads failed at these positions, and one of them in the place of stripe i's block
pub record HasFailed (a : AloofShape) (i : ℕ) (failed : List ℕ) : Type 0 where
  pub earlier : List ℕ
  pub place : ℕ
  pub later : List ℕ
  pub one : failed ≡ earlier ++ (place ∷ later)
  pub from : block_start a i ≤ place
  pub before : place < block_start a i + block_length a

-- a file has no block in the place of stripe i's, or a read there failed
abbrev pub IsMissing : AloofShape → ℕ → List ℕ → List ℕ → Type 0
IsMissing a i file failed = (¬ IsBlock a (block_in a i file)) ⊎ HasFailed a i failed

-- share c's block of stripe i counts in a join: a data share's always, and a parity share's where a data share's is missing
abbrev pub CountsAt : AloofShape → List (List ℕ) → List Seen → List Seen → ℕ → ℕ → Type 0
CountsAt a files olds news c i =
    (c < a.data_count) ⊎ ((d : ℕ) × (d < a.data_count) × IsMissing a i (get_or files d []) (failed_since (seen_of olds d) (seen_of news d)))

-- of the first so many blocks a file has each that counts, and no read of it failed; or this is the first that counts and is missing, and no
-- read failed before its place
abbrev pub IsFirstMissed : AloofShape → ℕ → (ℕ → Type 0) → List ℕ → List ℕ → Option ℕ → Type 0
IsFirstMissed a count Counts file failed None = ((i : ℕ) → i < count → Counts i → IsBlock a (block_in a i file)) × (failed ≡ [])
IsFirstMissed a count Counts file failed (Some first) =
    (first < count) × Counts first × ((i : ℕ) → i < first → Counts i → IsBlock a (block_in a i file)) × IsMissing a first file failed
    × All (λ place. block_start a first ≤ place) failed

-- a place of the block of one of the first so many stripes, which counts
pub record IsWanted (a : AloofShape) (count : ℕ) (Counts : ℕ → Type 0) (place : ℕ) : Type 0 where
  pub stripe : ℕ
  pub within : stripe < count
  pub counts : Counts stripe
  pub at : IsIn a stripe place

-- of each share in a join this is the first block that counts and is missing, and nothing came of it but from blocks that count
pub record AreFirstMissed (a : AloofShape) (count : ℕ) (files : List (List ℕ)) (olds news : List Seen) (missed : List (Option ℕ)) : Type 0 where
  pub each : (c : ℕ) → c < all_chunks a →
      IsFirstMissed a count (CountsAt a files olds news c) (get_or files c []) (failed_since (seen_of olds c) (seen_of news c)) (get_or missed c None)
  pub asked : (c : ℕ) → c < all_chunks a → IsAskedAt (IsWanted a count (CountsAt a files olds news c)) (seen_of olds c) (seen_of news c)

-- of more shares than there are parity chunks stripe i's block is missing
pub record LackBlocks (a : AloofShape) (i : ℕ) (files : List (List ℕ)) (olds news : List Seen) : Type 0 where
  pub lost : ℕ → Bool
  pub many : a.parity_count < count_below (all_chunks a) lost
  pub each : (c : ℕ) → c < all_chunks a → lost c ≡ true → IsMissing a i (get_or files c []) (failed_since (seen_of olds c) (seen_of news c))

-- where none of the data shares missed a block, nothing was asked of a parity share's source
abbrev pub IsParityUnread : AloofShape → List Seen → List Seen → List (Option ℕ) → Type 0
IsParityUnread a olds news missed =
    ((d : ℕ) → d < a.data_count → get_or missed d None ≡ None) → (c : ℕ) → a.data_count ≤ c → seen_of news c ≡ seen_of olds c

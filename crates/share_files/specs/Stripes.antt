-- The stripes of a file, joined from the blocks of its shares that count.
use Rattle.std.specs.Prelude.{◌≡◌, ℕ, ◌-◌, ◌*◌, ◌<◌, ◌⊎◌, min, List, [], length, get_or, take, drop, Option, Some, None, Vec}
use Rattle.std.specs.declared.alloc.Global.{Global}
use Rattle.clay_aloof.specs.Shape.{AloofShape, all_chunks, stripe_bytes}
use Rattle.share_format.specs.Blocks.{IsBlock}
use Rattle.share_format.specs.Header.{Header}
use Rattle.share_format.specs.Joined.{IsJoined, AreTooFew}
use Rattle.share_files.specs.Found.{block_in}
use Rattle.share_files.specs.Seen.{Seen, seen_of, failed_since, Show}
use Rattle.share_files.specs.Missed.{HasFailed, IsMissing, CountsAt}

-- a share's block of stripe i, by whether it counts: as it stands in its file, and no read of it failed. None where it is missing or doesn't count
abbrev pub IsRead : AloofShape → ℕ → Type 0 → List ℕ → List ℕ → Option (Vec ℕ Global) → Type 0
IsRead a i Counts file failed None = IsMissing a i file failed ⊎ ¬ Counts
IsRead a i Counts file failed (Some block) = Counts × (block.items ≡ block_in a i file) × IsBlock a (block_in a i file) × ¬ HasFailed a i failed

-- blocks of stripe i, one for each share, of which these count. No more are none than there are parity chunks
pub record AreBlocksOf (a : AloofShape) (i : ℕ) (Counts : ℕ → Type 0) (files : List (List ℕ)) (olds news : List Seen) (blocks : List (Option (Vec ℕ Global))) : Type 0 where
  pub count : length blocks ≡ all_chunks a
  pub read : (c : ℕ) → c < all_chunks a → IsRead a i (Counts c) (get_or files c []) (failed_since (seen_of olds c) (seen_of news c)) (get_or blocks c None)
  pub few : ¬ AreTooFew a blocks

-- bytes are joined from the blocks of stripe i that count: they are each stripe whose codeword has these blocks, and some bytes where none has
pub record IsStripeOf (a : AloofShape) (i : ℕ) (files : List (List ℕ)) (olds news : List Seen) (bytes : List ℕ) : Type 0 where
  pub blocks : List (Option (Vec ℕ Global))
  pub are : AreBlocksOf a i (λ c. CountsAt a files olds news c i) files olds news blocks
  pub joined : IsJoined a blocks bytes

-- such a stripe stands in the place of stripe i in these bytes, as far as the file goes
pub record HasStripe (h : Header) (i : ℕ) (files : List (List ℕ)) (olds news : List Seen) (bytes : List ℕ) : Type 0 where
  pub stripe : List ℕ
  pub of : IsStripeOf h.shape i files olds news stripe
  pub part : take (stripe_bytes h.shape) (drop (i * stripe_bytes h.shape) bytes) ≡ take (min (h.size - i * stripe_bytes h.shape) (stripe_bytes h.shape)) stripe

-- bytes are the first so many stripes of a file, each joined from the blocks of it that count in the files that the sources show
pub record AreJoined (h : Header) (count : ℕ) (olds news : List Seen) (bytes : List ℕ) : Type 0 where
  pub size : length bytes ≡ min h.size (count * stripe_bytes h.shape)
  pub stripes : (files : List (List ℕ)) → Show news files → (i : ℕ) → i < count → HasStripe h i files olds news bytes

-- A file that is joined from its shares.
use Rattle.std.specs.Prelude.{◌≡◌, ℕ, ◌+◌, ◌<◌, ◌≤◌, Bool, true, false, Option, List, [], length, get_or}
use Rattle.crc64.specs.Remainder.{checksum_of}
use Rattle.clay_grid.specs.Score.{count_below}
use Rattle.clay_aloof.specs.Shape.{AloofShape, all_chunks}
use Rattle.share_format.specs.Cut.{stripe_count, AreCodewords}
use Rattle.share_format.specs.Blocks.{block_of, IsBlock}
use Rattle.share_format.specs.Header.{Header}
use Rattle.share_format.specs.Shares.{IsShare}
use Rattle.share_files.specs.Found.{block_in}
use Rattle.share_files.specs.Seen.{Seen}
use Rattle.share_files.specs.Missed.{AreFirstMissed, LackBlocks}
use Rattle.share_files.specs.declared.joining.JoinFault.{JoinFault}
use Rattle.share_files.specs.declared.joining.JoinFault.TheVariants.{TooFew, Mismatch, WriteFault, OutOfMemory}

-- what passes as a block of stripe i in the shares' files is that of the share's chunk of the word: no rot there has the right checksums
abbrev pub NoRotIn : AloofShape → ℕ → List (List ℕ) → List (List ℕ) → Type 0
NoRotIn a i files word =
    (c : ℕ) → c < all_chunks a → IsBlock a (block_in a i (get_or files c [])) → block_in a i (get_or files c []) ≡ block_of a (get_or word c [])

-- a file has the header's length and checksum, and of each of its stripes this holds of the codeword
pub record NoRotPasses (h : Header) (file : List ℕ) (files : List (List ℕ)) : Type 0 where
  pub size : length file ≡ h.size
  pub checksum : checksum_of file ≡ h.checksum
  pub words : List (List (List ℕ))
  pub coded : AreCodewords h.shape file words
  pub blocks : (i : ℕ) → i < length words → NoRotIn h.shape i files (get_or words i [])

-- a stripe of which too few shares have a block is one of the file
abbrev pub IsOfFile : Header → JoinFault → Type 0
IsOfFile h (TooFew stripe) = stripe < stripe_count h.shape h.size
IsOfFile h Mismatch = Unit {0}
IsOfFile h WriteFault = Unit {0}
IsOfFile h OutOfMemory = Unit {0}

-- what is noted of each share up to some stripe, and from which places something came of it
pub record AreNoted (h : Header) (files : List (List ℕ)) (olds news : List Seen) (missed : List (Option ℕ)) : Type 0 where
  pub count : ℕ
  pub within : count ≤ stripe_count h.shape h.size
  pub first : AreFirstMissed h.shape count files olds news missed

-- why a file could not be joined from shares in these files: too few have a block of a stripe. What each share missed up to there is noted, and so
-- it is where all stripes were joined to another file, and of some first stripes where a write failed
abbrev pub IsWhyNot : Header → List (List ℕ) → List Seen → List Seen → List (Option ℕ) → JoinFault → Type 0
IsWhyNot h files olds news missed (TooFew stripe) =
    (stripe < stripe_count h.shape h.size) × LackBlocks h.shape stripe files olds news
    × AreFirstMissed h.shape (stripe + 1) files olds news missed
IsWhyNot h files olds news missed Mismatch = AreFirstMissed h.shape (stripe_count h.shape h.size) files olds news missed
IsWhyNot h files olds news missed WriteFault = AreNoted h files olds news missed
IsWhyNot h files olds news missed OutOfMemory = Unit {0}

-- of a file with the header's length and checksum each file is its share, but for erased ones, which are empty, and of which there are no more
-- than parity chunks
pub record AreSharesBut (h : Header) (erased : ℕ → Bool) (file : List ℕ) (files : List (List ℕ)) : Type 0 where
  pub size : length file ≡ h.size
  pub checksum : checksum_of file ≡ h.checksum
  pub few : count_below (all_chunks h.shape) erased ≤ h.shape.parity_count
  pub kept : (c : ℕ) → c < all_chunks h.shape → erased c ≡ false → IsShare h.shape file c (get_or files c [])
  pub gone : (c : ℕ) → c < all_chunks h.shape → erased c ≡ true → get_or files c [] ≡ []

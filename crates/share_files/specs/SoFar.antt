-- What has come of a join after some stripes.
use Rattle.std.specs.Prelude.{◌≡◌, ℕ, ◌+◌, ◌<◌, ◌≤◌, Option, All, List, length}
use Rattle.crc64.specs.Remainder.{checksum_of}
use Rattle.clay_bytes.specs.Stream.{Accepts}
use Rattle.share_format.specs.Cut.{stripe_count}
use Rattle.share_format.specs.Header.{Header}
use Rattle.share_format.specs.Shares.{block_start}
use Rattle.share_files.specs.Seen.{Seen, seen_of, failed_since, Show}
use Rattle.share_files.specs.Gathered.{Grow}
use Rattle.share_files.specs.Missed.{AreFirstMissed, LackBlocks, IsParityUnread}
use Rattle.share_files.specs.Stripes.{AreJoined}
use Rattle.share_files.specs.declared.joining.JoinFault.{JoinFault}
use Rattle.share_files.specs.declared.joining.JoinFault.TheVariants.{TooFew, Mismatch, WriteFault, OutOfMemory}

-- after so many stripes a sink took all but so many bytes of the file, with this checksum
pub record TakesSoFar (h : Header) (count left : ℕ) (olds news : List Seen) (accepted : List ℕ) (written : Option (List ℕ)) (now : List ℕ)
    (new : Option (List ℕ)) (checksum : ℕ) : Type 0 where
  pub done : List ℕ
  pub takes : Accepts accepted written done now new
  pub counted : length done + left ≡ h.size
  pub summed : checksum ≡ checksum_of done
  pub joined : AreJoined h count olds news done

-- after so many stripes it is noted what each share missed, no read failed behind the blocks of these stripes, and where no data share missed
-- one, no parity share was asked
pub record AreReadSoFar (h : Header) (count : ℕ) (olds news : List Seen) (missed : List (Option ℕ)) : Type 0 where
  pub grow : Grow olds news
  pub within : (c : ℕ) → All (λ place. place < block_start h.shape count) (failed_since (seen_of olds c) (seen_of news c))
  pub noted : (files : List (List ℕ)) → Show news files → AreFirstMissed h.shape count files olds news missed
  pub unread : IsParityUnread h.shape olds news missed

-- so it is after some stripes
pub record AreReadSome (h : Header) (olds news : List Seen) (missed : List (Option ℕ)) : Type 0 where
  pub count : ℕ
  pub within : count ≤ stripe_count h.shape h.size
  pub so : AreReadSoFar h count olds news missed

-- why stripes could not be joined
abbrev pub IsStop : Header → List Seen → List Seen → List (Option ℕ) → JoinFault → Type 0
IsStop h olds news missed (TooFew stripe) =
    (stripe < stripe_count h.shape h.size) × AreReadSoFar h (stripe + 1) olds news missed
    × ((files : List (List ℕ)) → Show news files → LackBlocks h.shape stripe files olds news)
IsStop h olds news missed Mismatch = ⊥
IsStop h olds news missed WriteFault = AreReadSome h olds news missed
IsStop h olds news missed OutOfMemory = Unit {0}

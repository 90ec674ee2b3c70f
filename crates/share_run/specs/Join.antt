-- How a join of a file from its shares ends.
use Rattle.std.specs.Prelude.{◌≡◌, ◌≢◌, ℕ, ◌+◌, ◌<◌, Option, List, [], ◌∷◌, ◌++◌, length}
use Rattle.crc64.specs.Remainder.{checksum_of}
use Rattle.share_format.specs.Cut.{stripe_count}
use Rattle.share_format.specs.Header.{Header}
use Rattle.share_files.specs.Seen.{Seen, Show}
use Rattle.share_files.specs.Missed.{AreFirstMissed, LackBlocks, IsParityUnread}
use Rattle.share_files.specs.Stripes.{AreJoined}
use Rattle.share_files.specs.Joined.{AreNoted}
use Rattle.share_run.specs.Places.{Kept, filled, IsUntouched, IsUnwritten}
use Rattle.share_run.specs.declared.share_status.ShareStatus.{ShareStatus}
use Rattle.share_run.specs.declared.share_status.ShareStatus.TheVariants.{Done, Usage, TooFew, BadShare, ReadFault, WriteFault, OutOfMemory}

-- the shares' sources, the count of failed writes beside the file's place, and the place: each before and after a join; and what is noted
-- of each share
pub record JoinRun : Type 0 where
  pub header : Header
  pub olds : List Seen
  pub news : List Seen
  pub writes : ℕ
  pub written : ℕ
  pub before : Kept
  pub after : Kept
  pub missed : List (Option ℕ)

abbrev pub join_run : Header → List Seen → List Seen → ℕ → ℕ → Kept → Kept → List (Option ℕ) → JoinRun
join_run header olds news writes written before after missed = record {
  header = header;
  olds = olds;
  news = news;
  writes = writes;
  written = written;
  before = before;
  after = after;
  missed = missed;
}

-- a file was put into the place, of the length and the checksum that the header tells, and of the blocks that count
pub record FilePlaced (r : JoinRun) : Type 0 where
  pub file : List ℕ
  pub size : length file ≡ r.header.size
  pub checksum : checksum_of file ≡ r.header.checksum
  pub from : AreJoined r.header (stripe_count r.header.shape r.header.size) r.olds r.news file
  pub placed : r.after.files ≡ r.before.files ++ filled 0 file ∷ []

-- up to so many stripes it is noted what each share missed, and nothing came of it but from blocks that count. Where no data share missed one,
-- no parity share was asked
pub record IsNoted (r : JoinRun) (count : ℕ) : Type 0 where
  pub first : (files : List (List ℕ)) → Show r.news files → AreFirstMissed r.header.shape count files r.olds r.news r.missed
  pub unread : IsParityUnread r.header.shape r.olds r.news r.missed

-- whatever files the sources show, so it is up to some stripe
pub record IsNotedSoFar (r : JoinRun) : Type 0 where
  pub first : (files : List (List ℕ)) → Show r.news files → AreNoted r.header files r.olds r.news r.missed
  pub unread : IsParityUnread r.header.shape r.olds r.news r.missed

-- the blocks that count give a file of the header's length and with another checksum
pub record IsAnother (r : JoinRun) : Type 0 where
  pub file : List ℕ
  pub size : length file ≡ r.header.size
  pub checksum : checksum_of file ≢ r.header.checksum
  pub from : AreJoined r.header (stripe_count r.header.shape r.header.size) r.olds r.news file

-- too few shares have a block of a stripe, and what each missed up to it is noted
pub record IsLacking (r : JoinRun) : Type 0 where
  pub stripe : ℕ
  pub within : stripe < stripe_count r.header.shape r.header.size
  pub lack : (files : List (List ℕ)) → Show r.news files → LackBlocks r.header.shape stripe files r.olds r.news
  pub noted : IsNoted r (stripe + 1)

-- no write failed, and the place refused nothing
abbrev pub IsWritten : JoinRun → Type 0
IsWritten r = (r.written ≡ r.writes) × (r.after.faults ≡ r.before.faults)

-- what each status says of a join
abbrev pub JoinEnds : ShareStatus → JoinRun → Type 0
JoinEnds Done r = FilePlaced r × IsNoted r (stripe_count r.header.shape r.header.size) × IsWritten r
JoinEnds Usage r = ⊥
JoinEnds TooFew r = IsLacking r × IsUntouched r.before r.after × IsWritten r
-- what the shares give has another checksum
JoinEnds BadShare r = IsAnother r × IsNoted r (stripe_count r.header.shape r.header.size) × IsUntouched r.before r.after × IsWritten r
JoinEnds ReadFault r = ⊥
JoinEnds WriteFault r = IsNotedSoFar r × IsUnwritten r.writes r.written r.before r.after × IsUntouched r.before r.after
JoinEnds OutOfMemory r = IsUntouched r.before r.after × IsWritten r

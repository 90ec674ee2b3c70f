-- How a mend of a lost share from parts of others ends.
use Rattle.std.specs.Prelude.{◌≡◌, ℕ, Bool, List, [], ◌∷◌, ◌++◌, length}
use Rattle.std.specs.List.{flat_map, range_with_len}
use Rattle.crc64.specs.Remainder.{checksum_of}
use Rattle.clay_aloof.specs.Shape.{all_chunks}
use Rattle.share_format.specs.Cut.{stripe_count, AreCodewords}
use Rattle.share_format.specs.Header.{Header}
use Rattle.share_format.specs.Mend.{block_ranges}
use Rattle.share_format.specs.Shares.{IsShare}
use Rattle.share_files.specs.Seen.{Seen, Show}
use Rattle.share_files.specs.Put.{HasChunks}
use Rattle.share_mends.specs.Asked.{AreAsked, OneReadFails, NoReadFails}
use Rattle.share_mends.specs.Mended.{HaveGood, IsFirstRotten, AreOfWords, IsMended}
use Rattle.share_run.specs.Places.{Kept, filled, IsUntouched, IsUnwritten}
use Rattle.share_run.specs.declared.share_status.ShareStatus.{ShareStatus}
use Rattle.share_run.specs.declared.share_status.ShareStatus.TheVariants.{Done, Usage, TooFew, BadShare, ReadFault, WriteFault, OutOfMemory}
use Rattle.share_run.specs.declared.mends_of_shares.MendStop.{MendStop}
use Rattle.share_run.specs.declared.mends_of_shares.MendStop.TheVariants.{RottenHelper, UnreadHelper}

-- the lost share's header, and the shares' sources, the count of failed writes beside the lost share's place, and the place: each before and
-- after a mend
pub record MendRun : Type 0 where
  pub header : Header
  pub olds : List Seen
  pub news : List Seen
  pub writes : ℕ
  pub written : ℕ
  pub before : Kept
  pub after : Kept

abbrev pub mend_run : Header → List Seen → List Seen → ℕ → ℕ → Kept → Kept → MendRun
mend_run header olds news writes written before after = record {
  header = header;
  olds = olds;
  news = news;
  writes = writes;
  written = written;
  before = before;
  after = after;
}

abbrev pub stripes_of : MendRun → ℕ
stripes_of r = stripe_count r.header.shape r.header.size

-- a file was put into the place: the header, and the blocks of what the helpers' parts mend to. It is the lost share of whatever file the
-- helpers' good pieces hold the parts
pub record SharePlaced (marks : List Bool) (r : MendRun) : Type 0 where
  pub bytes : List ℕ
  pub placed : r.after.files ≡ r.before.files ++ filled 0 bytes ∷ []
  pub made : HasChunks r.header (IsMended r.header.shape r.header.share marks r.news) bytes
  pub share : (file : List ℕ) (words : List (List (List ℕ))) (files : List (List ℕ)) → Show r.news files → length file ≡ r.header.size →
      checksum_of file ≡ r.header.checksum → AreCodewords r.header.shape file words →
      AreOfWords r.header.shape r.header.share marks files words → IsShare r.header.shape file r.header.share bytes

-- each helper gave just its parts, which are good in whatever files are shown, and no other source gave a byte
pub record PartsTaken (marks : List Bool) (r : MendRun) : Type 0 where
  pub good : (files : List (List ℕ)) → Show r.news files → HaveGood r.header.shape r.header.share marks files (stripes_of r)
  pub asked : AreAsked marks (flat_map (block_ranges r.header.shape r.header.share) (range_with_len 0 (stripes_of r))) (all_chunks r.header.shape) r.olds r.news

-- no write failed, and the place refused nothing
abbrev pub IsWritten : MendRun → Type 0
IsWritten r = (r.written ≡ r.writes) × (r.after.faults ≡ r.before.faults)

-- what each status says of a mend with these helpers
abbrev pub MendEnds : List Bool → MendRun → ShareStatus → Type 0
MendEnds marks r Done = SharePlaced marks r × PartsTaken marks r × NoReadFails r.olds r.news × IsWritten r
MendEnds marks r Usage = ⊥
MendEnds marks r TooFew = ⊥
MendEnds marks r BadShare = ⊥
MendEnds marks r ReadFault = ⊥
MendEnds marks r WriteFault = IsUnwritten r.writes r.written r.before r.after × IsUntouched r.before r.after × NoReadFails r.olds r.news
MendEnds marks r OutOfMemory = IsUntouched r.before r.after × NoReadFails r.olds r.news × IsWritten r

-- and why a mend stopped: the first rotten part of a helper, or a failed read of one. Nothing was put into the place
abbrev pub MendStops : List Bool → MendRun → MendStop → Type 0
MendStops marks r (RottenHelper part) = ((files : List (List ℕ)) → Show r.news files → IsFirstRotten r.header.shape r.header.share marks files (stripes_of r) part)
    × IsUntouched r.before r.after × NoReadFails r.olds r.news × IsWritten r
MendStops marks r UnreadHelper = OneReadFails r.header.shape marks (stripes_of r) r.olds r.news × IsUntouched r.before r.after × IsWritten r

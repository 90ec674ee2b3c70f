-- How a cut of a file into shares ends.
use Rattle.std.specs.Prelude.{◌≡◌, ◌<◌, ◌⊎◌, ℕ, Bool, Option, List, ◌++◌, length, take}
use Rattle.clay_bytes.specs.Stream.{Rises}
use Rattle.clay_aloof.specs.Shape.{AloofShape, all_chunks}
use Rattle.share_files.specs.Cut.{AreCut, HandsOutTooMuch}
use Rattle.share_files.specs.Written.{OneRises}
use Rattle.share_run.specs.Places.{Kept, filled_from, IsUntouched}
use Rattle.share_run.specs.declared.share_status.ShareStatus.{ShareStatus}
use Rattle.share_run.specs.declared.share_status.ShareStatus.TheVariants.{Done, Usage, TooFew, BadShare, ReadFault, WriteFault, OutOfMemory}

-- what a source handed out, has left where it tells that, whether it told its end, and how many of its reads failed
pub record Heard : Type 0 where
  pub given : List ℕ
  pub left : Option (List ℕ)
  pub ended : Bool
  pub faults : ℕ

abbrev pub heard : List ℕ → Option (List ℕ) → Bool → ℕ → Heard
heard given left ended faults = record { given = given; left = left; ended = ended; faults = faults }

-- the file's source, the counts of failed writes beside each share's place, and the places: each before and after a cut
pub record CutRun : Type 0 where
  pub shape : AloofShape
  pub old : Heard
  pub new : Heard
  pub writes : List ℕ
  pub written : List ℕ
  pub before : Kept
  pub after : Kept

abbrev pub cut_run : AloofShape → Heard → Heard → List ℕ → List ℕ → Kept → Kept → CutRun
cut_run shape old new writes written before after = record {
  shape = shape;
  old = old;
  new = new;
  writes = writes;
  written = written;
  before = before;
  after = after;
}

-- the source handed out a file and told its end, and of its shares so many, from share 0 on, were put into the places of their numbers
pub record SharesPlaced (r : CutRun) (count : ℕ) : Type 0 where
  pub files : List (List ℕ)
  pub size : length files ≡ all_chunks r.shape
  pub cut : AreCut r.shape r.old.given r.old.left r.new.given r.new.left r.new.ended files
  pub placed : r.after.files ≡ r.before.files ++ filled_from 0 (take count files)

-- no read failed
abbrev pub IsRead : CutRun → Type 0
IsRead r = r.new.faults ≡ r.old.faults

-- no write failed, and no place refused its share
abbrev pub IsWritten : CutRun → Type 0
IsWritten r = (r.written ≡ r.writes) × (r.after.faults ≡ r.before.faults)

-- what each status says of a cut
abbrev pub CutEnds : ShareStatus → CutRun → Type 0
-- all shares stand in their places
CutEnds Done r = SharesPlaced r (all_chunks r.shape) × IsRead r × IsWritten r
-- the file is longer than a share can be of
CutEnds Usage r = HandsOutTooMuch r.old.given r.old.left 0 r.new.given r.new.left × IsUntouched r.before r.after × IsRead r × IsWritten r
CutEnds TooFew r = ⊥
CutEnds BadShare r = ⊥
CutEnds ReadFault r = Rises r.old.faults r.new.faults × IsUntouched r.before r.after × IsWritten r
-- a write beside a place failed, nothing was put anywhere and no place refused; or no write failed, and a place refused its share, and those
-- before it have theirs
CutEnds WriteFault r = IsRead r
    × ((OneRises r.writes r.written × IsUntouched r.before r.after × (r.after.faults ≡ r.before.faults))
    ⊎ ((r.written ≡ r.writes) × Rises r.before.faults r.after.faults × ((count : ℕ) × (count < all_chunks r.shape) × SharesPlaced r count)))
CutEnds OutOfMemory r = IsUntouched r.before r.after × IsRead r × IsWritten r

-- Snapshots at the directory: the looks that take one, the ends of their passes, and what a read of one gathers.
use Rattle.std.specs.Prelude.{◌≡◌, ℕ, ◌+◌, false, min, List, [], ◌∷◌, length, get_or, map, replicate, bytes_eq, Option, None, Some, option_map, unwrap_or, if◌then◌else◌}
use Rattle.clay_grid.specs.Shape.{Shape}
use Rattle.store_map.specs.PlainMap.{bytes_of, read_at}
use Rattle.store_map.specs.declared.actor.Actor.TheVariants as actor
use Rattle.store_map.specs.declared.call.Call.TheVariants as call
use Rattle.store_map.specs.declared.placement.Placement.TheVariants as placement
use Rattle.store_map.specs.declared.reply.Reply.TheVariants as reply
use Rattle.store_core.specs.Told.{Seen}
use Rattle.store_core.specs.Note.{note_of}
use Rattle.store_core.specs.Act.{Act, DirectoryStep, Outcome}
use Rattle.store_core.specs.Calls.{Calls}
use Rattle.store_core.specs.Content.{contents_by}
use Rattle.store_core.specs.Directory.{Pin, Directory}
use Rattle.store_core.specs.Lookups.{pass_of}
use Rattle.store_core.specs.Gathering.{Part}
use Rattle.store_core.specs.Step.{Places, at_places}
use Rattle.run_laws.specs.State.{State as CallAt}
use Rattle.run_laws.specs.ReadLaws.{bytes_read}
use Rattle.session_rules.specs.State.{Numbering, Snapshot, numbers_of, stripe_at}
use Rattle.session_rules.specs.declared.session_answer.Answer.{Answer}
use Rattle.session_rules.specs.Gathered.{ranges_between}
use Rattle.session_rules.specs.Outcomes.{lost_as}
use Rattle.session_rules.specs.Reading.{begun, reading_steps}

-- looks of a get of each of some objects, one after another, by a reader each, in order, in calls with this number
abbrev pub look_all : ℕ → List ℕ → List (List ℕ) → Places → Places
look_all number [] names p = p
look_all number (reader ∷ readers) [] p = p
look_all number (reader ∷ readers) (name ∷ names) p =
    look_all number readers names
    (at_places false (actor.Client reader) number (Act.AtDirectory (DirectoryStep.Look (note_of (call.Get name)))) p).0

-- the ends of some readers' passes, one after another
abbrev pub end_all : ℕ → List ℕ → Places → Places
end_all number [] p = p
end_all number (reader ∷ readers) p =
    end_all number readers (at_places false (actor.Client reader) number (Act.AtDirectory DirectoryStep.End) p).0

-- the reader that looked at the object with a name
abbrev pub reader_of : List ℕ → List ℕ → Numbering → Option ℕ
reader_of name [] numbers = None
reader_of name (reader ∷ readers) [] = None
reader_of name (reader ∷ readers) (object ∷ numbers) = if bytes_eq name object.0 then Some reader else reader_of name readers numbers

-- what a reader has pinned
abbrev pub pins_by : Directory → Option ℕ → List Pin
pins_by d None = []
pins_by d (Some reader) = unwrap_or (option_map (λ pass. pass.pinned) (pass_of (actor.Client reader) d)) []

-- of a snapshot's object with a name, and of the bytes of it from an offset on, as many as are there
module _ (g : Shape) (readers : List ℕ) (d : Directory) (kept : Snapshot) (name : List ℕ) (offset count : ℕ) where
  -- a stripe as its look told it: the version that is pinned, and where its chunks were placed when the snapshot was taken
  abbrev pub kept_stripe : ℕ → Seen
  kept_stripe i =
      record {
        stripe = i;
        version = (get_or (pins_by d (reader_of name readers kept.numbers)) i (record { stripe = 0; version = 0 })).version;
        placed = map (λ chunk. placement.At chunk.placed) (stripe_at kept.stripes (numbers_of name kept.numbers) i);
      }

  -- what is gathered of the stripes that have the bytes
  abbrev pub kept_parts : List Part
  kept_parts =
      map (λ range. record { seen = kept_stripe range.stripe; start = range.start; end = range.end })
      (ranges_between g offset (min (offset + count) (length (unwrap_or (bytes_of name kept.objects) []))))

-- how a read ends that has this answer; a refused one gathers nothing
abbrev pub gathered_as : Answer → Outcome
gathered_as (Answer.Replied answer) = Outcome.Served 0
gathered_as (Answer.Unavailable stripe missing) = Outcome.Unavailable stripe (map lost_as missing)
gathered_as _ = Outcome.NoMemory

-- a read of the snapshot gathers alone, with ample memory, to the outcome that stands for the answer; bytes that the map replies are those that the
-- pinned versions stand for
pub record IsReadServed (calls : Calls) (g : Shape) (readers : List ℕ) (kept : Snapshot) (name : List ℕ) (offset count : ℕ) (before : Places)
    (answer : Answer) (after : Places) : Type 0 where
  pub made : ℕ
  pub ends :
      reading_steps g (replicate made (record { coding = false; step = false }))
      (begun g (kept_parts g readers before.directory kept name offset count) before)
      ≡ record { call = record { pairs = []; at = CallAt.Ending (gathered_as answer) }; places = after }
  pub bytes :
      (given : List ℕ) → read_at offset count (bytes_of name kept.objects) ≡ reply.Bytes given →
      given ≡ bytes_read (contents_by g calls before.directory.versions) (kept_parts g readers before.directory kept name offset count)

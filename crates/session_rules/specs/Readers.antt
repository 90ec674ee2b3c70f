-- The clients whose looks hold a snapshot, and what is known of them.
use Rattle.std.specs.Prelude.{◌≡◌, ℕ, ◌≤◌, ◌<◌, Bool, false, nat_eq, List, [], ◌∷◌, length, get_or, map, Option, None, Some, IfSome, ⊤}
use Rattle.std.specs.List.{AllByRecursion, IsDistinct, enumerate_from}
use Rattle.clay_grid.specs.Shape.{Shape}
use Rattle.store_map.specs.declared.actor.Actor.{Actor}
use Rattle.store_map.specs.declared.actor.Actor.TheVariants as actor
use Rattle.store_map.specs.declared.call.Call.TheVariants as call
use Rattle.store_core.specs.Lists.{is_among}
use Rattle.store_core.specs.Note.{note_of}
use Rattle.store_core.specs.Directory.{Pin, Pass, Directory}
use Rattle.store_core.specs.Lookups.{pass_of}
use Rattle.store_core.specs.Agreement.{ActorToken, Agrees}
use Rattle.store_core.specs.Calls.{Calls}
use Rattle.store_core.specs.Content.{contents_by}
use Rattle.run_laws.specs.Contents.{stripes_in}
use Rattle.session_rules.specs.State.{Numbering, Snapshot}
use Rattle.session_rules.specs.Snapshots.{most_objects}
use Rattle.session_rules.specs.Seen.{version_of}

-- the readers are as many as a snapshot may have objects, each of them once, and the client that makes the calls is none of them
pub record AreReaders (client : ℕ) (readers : List ℕ) : Type 0 where
  pub enough : most_objects ≤ length readers
  pub once : IsDistinct nat_eq (client ∷ readers)

-- the actor is one of them
abbrev pub is_reader : List ℕ → Actor → Bool
is_reader readers (actor.Client i) = is_among i readers
is_reader readers who = false

-- the numbers of the stripes of the objects in the snapshot that is open; none where none is
abbrev pub kept_numbers : Option Snapshot → Numbering
kept_numbers None = []
kept_numbers (Some kept) = kept.numbers

-- the pin of a stripe with this place and number
abbrev pub pin_at : List ℕ → ℕ × ℕ → Pin
pin_at stands stripe = record { stripe = stripe.0; version = version_of stands stripe.1 }

-- the pass of a reader's look at an object: it pins the versions of all its stripes
abbrev pub look_at : List ℕ → ℕ → ℕ → List ℕ × List ℕ → Pass
look_at stands number reader object =
    record {
      actor = actor.Client reader;
      number = number;
      note = note_of (call.Get object.0);
      pinned = map (pin_at stands) (enumerate_from 0 object.1);
      drawn = [];
      base = None;
      reaped = None;
    }

-- the readers' tickets: the passes of the looks that were made under a number, one an object, and the seats of those that no object needs, with
-- unused numbers from another on
abbrev pub tickets_of : List ℕ → ℕ → ℕ → List ℕ → Numbering → List ActorToken
tickets_of stands number unused [] numbers = []
tickets_of stands number unused (reader ∷ readers) [] =
    ActorToken.Seated (record { actor = actor.Client reader; unused = unused; told = None }) ∷ tickets_of stands number unused readers []
tickets_of stands number unused (reader ∷ readers) (object ∷ numbers) =
    ActorToken.InCall (record { pass = look_at stands number reader object; told = None }) ∷ tickets_of stands number unused readers numbers

-- the versions of an object's stripes stand for these contents
abbrev pub contents_under : List (List ℕ) → List ℕ → List ℕ × List ℕ → List ℕ × List (List ℕ)
contents_under contents stands object = (object.0, map (λ number. get_or contents (version_of stands number) []) object.1)

-- the versions that a snapshot keeps stand for the bytes that it keeps
abbrev pub StandForBytes : Calls → Shape → List ℕ → Directory → Option Snapshot → Type 0
StandForBytes calls g stands d None = ⊤
StandForBytes calls g stands d (Some kept) =
    map (contents_under (contents_by g calls d.versions) stands) kept.numbers ≡ stripes_in g kept.objects

-- the readers hold the snapshot that is open by looks at its objects, in order, and the others of them are in no call, nor is any other actor; all
-- numbers from this one on are unused
pub record HoldsSnapshot (calls : Calls) (g : Shape) (readers : List ℕ) (unused : ℕ) (stands : List ℕ) (d : Directory)
    (snapshot : Option Snapshot) : Type 0 where
  pub number : ℕ
  pub used : IfSome snapshot (λ kept. number < unused)
  pub few : length (kept_numbers snapshot) ≤ length readers
  pub tickets : AllByRecursion (Agrees d) (tickets_of stands number unused readers (kept_numbers snapshot))
  pub others : (who : Actor) → is_reader readers who ≡ false → pass_of who d ≡ None
  pub bytes : StandForBytes calls g stands d snapshot

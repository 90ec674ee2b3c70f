-- The looks of a snapshot: one of a get at each object.
use Rattle.std.specs.Prelude.{◌≡◌, ℕ, false, List, [], ◌∷◌, ◌++◌, length, map, take, drop, Some, All}
use Rattle.store_map.specs.declared.call.Call.TheVariants as call
use Rattle.store_core.specs.Note.{Note, note_of}
use Rattle.store_core.specs.Told.{Told}
use Rattle.store_core.specs.Act.{DirectoryStep}
use Rattle.store_core.specs.Directory.{Object, Pin, Directory}
use Rattle.store_core.specs.Lookups.{find_object}
use Rattle.store_core.specs.Look.{stripes_between, seen_at, pin_of}
use Rattle.store_core.specs.AtDirectory.{at_directory}
use Rattle.store_core.specs.Agreement.{ActorToken}
use Rattle.store_core.specs.Tokens.{actor_of}
use Rattle.call_steps.specs.TokenAfter.{token_after}
use Rattle.stripe_stamps.specs.Sealed.{Sealed}
use Rattle.stripe_stamps.specs.SeenStripes.{seen_in}
use Rattle.stripe_dir.specs.Shown.{IsShown}
use Rattle.snapshot_view.specs.Snapshots.{KeptOf}
use Rattle.snapshot_view.specs.Tickets.{AgreesWithAll, AreOfSame, IsInCall, passes_in, pins_of}

-- the get of an object
abbrev pub get_of : List ℕ → Note
get_of name = note_of (call.Get name)

-- the directory, and the tickets of the looks that were made
pub record Looked : Type 0 where
  pub directory : Directory
  pub tokens : List ActorToken

abbrev pub looked_with : Directory → List ActorToken → Looked
looked_with d tokens = record { directory = d; tokens = tokens }

-- one more look, at the object with a name
abbrev pub look_one : ℕ → Looked → ActorToken → List ℕ → Looked
look_one number looked token name =
    let after : Directory × Told = at_directory false (actor_of token) number (DirectoryStep.Look (get_of name)) looked.directory in
    record { directory = after.0; tokens = looked.tokens ++ token_after token number (DirectoryStep.Look (get_of name)) after.1 ∷ [] }

-- looks by these tickets, each at one of the objects with these names, in order
abbrev pub look_all : ℕ → Looked → List ActorToken → List (List ℕ) → Looked
look_all number looked [] names = looked
look_all number looked (token ∷ tokens) [] = looked
look_all number looked (token ∷ tokens) (name ∷ names) = look_all number (look_one number looked token name) tokens names

-- none was made yet
abbrev pub no_look : Directory → Looked
no_look d = looked_with d []

-- the versions of an object's stripes
abbrev pub versions_kept : KeptOf → List Pin
versions_kept kept = map pin_of (map seen_in kept.stripes)

-- an object as the directory had it under its name: its length, its stripes, their stamps
pub record IsAsFound (s : Sealed) (kept : KeptOf) : Type 0 where
  pub object : Object
  pub found : find_object kept.name s.core.objects ≡ Some object
  pub long : kept.size ≡ object.length
  pub stripes : map seen_in kept.stripes ≡ map (seen_at s.core object) (stripes_between s.core.shape 0 object.length)
  pub shown : All (IsShown s) kept.stripes

-- but for passes and points it is the same directory
abbrev pub IsSameButCalls : Sealed → Sealed → Type 0
IsSameButCalls before after = after ≡ record before { core = record (before.core) { passes = after.core.passes; points = after.core.points } }

-- the looks at the first objects were made, as many as are kept; each left a pass that pins its object's versions
pub record AreLooked (number : ℕ) (before after : Sealed) (tokens now : List ActorToken) (kept : List KeptOf) : Type 0 where
  pub looks :
      looked_with after.core (take (length kept) now)
      ≡ look_all number (no_look before.core) (take (length kept) tokens) (take (length kept) (map (λ object. object.name) before.core.objects))
  pub rest : drop (length kept) now ≡ drop (length kept) tokens
  pub names : map (λ kept. kept.name) kept ≡ take (length kept) (map (λ object. object.name) before.core.objects)
  pub found : All (IsAsFound before) kept
  pub calls : All (IsInCall number) (take (length kept) now)
  pub pins : map pins_of (take (length kept) now) ≡ map versions_kept kept
  pub actors : AreOfSame tokens now
  pub begun : after.core.passes ≡ passes_in (take (length kept) now) ++ before.core.passes
  pub agrees : AgreesWithAll after.core now
  pub same : IsSameButCalls before after

-- The servers that a read finds without their chunks: each told it so at a step of the read.
use Rattle.std.specs.Prelude.{◌≡◌, ⊤, ℕ, Bool, false, List, [], ◌∷◌, ◌++◌, map, get_or, All, Contains, Option, None, Some}
use Rattle.store_map.specs.declared.placement.Placement.TheVariants as placement
use Rattle.store_core.specs.Told.{Seen, Lost, lost_in}
use Rattle.store_core.specs.Act.{Outcome}
use Rattle.store_core.specs.Server.{Server, gives, found_at}
use Rattle.run_laws.specs.Stage.{Asking, seen_of}
use Rattle.run_laws.specs.State.{Sequel, State}
use Rattle.gathering.specs.Gathers.{GatherOf}
use Rattle.gather_parts.specs.States.{state_in}
use Rattle.call_steps.specs.declared.need.Need.TheVariants as need
use Rattle.snapshot_view.specs.Reads.{ReadOf}
use Rattle.snapshot_view.specs.ReadSteps.{need_of, stepped}
use Rattle.snapshot_view.specs.declared.read_outcomes.SnapOutcome.{SnapOutcome}
use Rattle.snapshot_view.specs.declared.read_outcomes.SnapOutcome.TheVariants as outcome

-- a step of a read: which server was asked, for a chunk of which version, and the server as it stood then
pub record Asked : Type 0 where
  pub number : ℕ
  pub version : ℕ
  pub server : Server

-- one of these steps asked the server for its chunk of the stripe; it gave none, and told its count at that moment: how often it was emptied, or away.
-- Beside it is named how the chunk was placed, as the snapshot keeps it
pub record WasFound (asked : List Asked) (seen : Seen) (lost : Lost) : Type 0 where
  pub step : Asked
  pub made : Contains asked step
  pub version : step.version ≡ seen.version
  pub server : lost.server ≡ step.number
  pub lacks : gives step.version step.server ≡ false
  pub found : lost.found ≡ found_at step.server
  pub placed : lost.placed ≡ get_or seen.placed step.number (placement.At 0)

-- the servers that a gathering has found without their chunks, while it asks
abbrev pub found_so_far : Asking → List Lost
found_so_far (Asking.Fetch server more missing) = missing
found_so_far (Asking.Look server more missing) = missing
found_so_far (Asking.Repair server more lost) = lost ∷ []
found_so_far (Asking.Whole server more wanted missing) = missing
found_so_far (Asking.Target server) = []

-- they were found at these steps without their chunks of one of the stripes
pub record AreOfOne (stripes : List Seen) (asked : List Asked) (stripe : ℕ) (missing : List Lost) : Type 0 where
  pub seen : Seen
  pub its : Contains stripes seen
  pub of_stripe : seen.stripe ≡ stripe
  pub found : All (WasFound asked seen) missing

-- where a read stands that gathers some of the stripes
abbrev pub HasFoundAt : List Seen → List Asked → State → Type 0
HasFoundAt stripes asked (State.Parts part parts after) = All (λ one. Contains stripes one.seen) (part ∷ parts)
HasFoundAt stripes asked (State.Gather aim asking parts after) =
    Contains stripes (seen_of aim) × All (WasFound asked (seen_of aim)) (found_so_far asking) × All (λ one. Contains stripes one.seen) parts
HasFoundAt stripes asked (State.Ending (Outcome.Unavailable stripe missing)) = AreOfOne stripes asked stripe missing
HasFoundAt stripes asked at = ⊤

-- each server that it has found without its chunk told it so at one of its steps
abbrev pub HasFound : List Seen → List Asked → ReadOf → Type 0
HasFound stripes asked r = HasFoundAt stripes asked (state_in r.gatherings (Sequel.Serve 0))

-- the version of the stripe at work
abbrev pub version_by : Option GatherOf → ℕ
version_by None = 0
version_by (Some w) = (seen_of w.course.aim).version

-- a step of it at a server with this number
abbrev pub asked_at : ReadOf → ℕ → Server → Asked
asked_at r number s = record { number = number; version = version_by r.gatherings.current; server = s }

-- an end names the servers that told the read so
abbrev pub NamesFound : List Seen → List Asked → SnapOutcome → Type 0
NamesFound stripes asked (outcome.Unavailable stripe missing) = AreOfOne stripes asked stripe (map lost_in missing.items)
NamesFound stripes asked ended = ⊤

-- so it stays at each step of the read, whatever steps others make between, and whether passes are reaped or not
abbrev pub ReadsFindInTime : Type 0
ReadsFindInTime =
    (stripes : List Seen) (asked : List Asked) (r : ReadOf) (number : ℕ) (short : Bool) (s : Server) → need_of r ≡ need.Server number →
    HasFound stripes asked r → HasFound stripes (asked ++ asked_at r number s ∷ []) (stepped r short s).1

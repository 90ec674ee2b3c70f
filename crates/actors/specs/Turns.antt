-- A turn of a call in work: a coding, if one is due, and a step.
use Rattle.std.specs.Prelude.{◌≡◌, ℕ, Bool, List, length, map, Some}
use Rattle.std.specs.List.{slice_get}
use Rattle.clay_grid.specs.Shape.{chunk_count}
use Rattle.store_core.specs.Lists.{change_at}
use Rattle.store_core.specs.Server.{Server}
use Rattle.store_core.specs.Step.{Places}
use Rattle.version_seal.specs.Entry.{BookOf}
use Rattle.chunk_server.specs.State.{ServerState}
use Rattle.chunk_server.specs.Core.{core_of}
use Rattle.stripe_stamps.specs.Sealed.{Sealed}
use Rattle.call_steps.specs.declared.need.Need.{Need}
use Rattle.call_steps.specs.declared.need.Need.TheVariants as need
use Rattle.call_steps.specs.CallOf.{CallOf}
use Rattle.call_steps.specs.Steps.{need_of, stepped_at_directory, stepped_at_server}
use Rattle.call_steps.specs.Ready.{ready}

-- directory and servers as the definitions see them
abbrev pub places_of : Sealed → List ServerState → Places
places_of d servers = record { directory = d.core; servers = map core_of servers }

-- as many servers as a stripe of the book has chunks, each with its number and of the book
pub record AreServers (book : BookOf) (servers : List ServerState) : Type 0 where
  pub count : length servers ≡ chunk_count book.geometry
  pub each : (i : ℕ) (s : ServerState) → slice_get servers i ≡ Some s → (s.number ≡ i) × (s.book ≡ book)

-- a step at a server that is there, where all others stay
pub record IsMadeAtServer (server : ℕ) (short due : Bool) (c : CallOf) (p : Places) (after : CallOf) (q : Places) : Type 0 where
  pub before : Server
  pub there : slice_get p.servers server ≡ Some before
  pub directory : q.directory ≡ p.directory
  pub servers : q.servers ≡ change_at server (λ _. (stepped_at_server short due c before).0) p.servers
  pub call : after ≡ (stepped_at_server short due c before).1

-- a step at the directory, where all servers stay
pub record IsMadeAtDirectory (short due : Bool) (c : CallOf) (p : Places) (after : CallOf) (q : Places) : Type 0 where
  pub directory : q.directory ≡ (stepped_at_directory short due c p.directory).0
  pub servers : q.servers ≡ p.servers
  pub call : after ≡ (stepped_at_directory short due c p.directory).1

-- where the call needs it
abbrev pub IsMadeAt : Need → Bool → Bool → CallOf → Places → CallOf → Places → Type 0
IsMadeAt need.Directory short due c p after q = IsMadeAtDirectory short due c p after q
IsMadeAt (need.Server server) short due c p after q = IsMadeAtServer server short due c p after q
IsMadeAt _ short due c p after q = ⊥

-- a whole turn: whether memory was wanting in its coding and in its step, and whether a coding is due after it
pub record IsTurn (c : CallOf) (p : Places) (after : CallOf) (q : Places) : Type 0 where
  pub coding : Bool
  pub short : Bool
  pub due : Bool
  pub made : IsMadeAt (need_of (ready coding c)) short due (ready coding c) p after q

-- the same call, of the same book, that has taken from as many servers
pub record IsSameCall (c after : CallOf) : Type 0 where
  pub book : after.book ≡ c.book
  pub number : after.number ≡ c.number
  pub servers : length after.takes ≡ length c.takes

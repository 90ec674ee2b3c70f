-- A session's store as its callers see it.
use Rattle.std.specs.Prelude.{ℕ, List, map, Option}
use Rattle.clay_grid.specs.Shape.{Shape}
use Rattle.store_core.specs.Agreement.{Seat, ActorToken}
use Rattle.store_core.specs.Step.{Places}
use Rattle.version_seal.specs.Entry.{BookOf}
use Rattle.chunk_server.specs.State.{ServerState}
use Rattle.chunk_server.specs.Core.{core_of}
use Rattle.stripe_stamps.specs.Sealed.{Sealed}
use Rattle.snapshot_view.specs.Snapshots.{SnapshotOf}

-- what it keeps for its requests: the book of its versions, the directory and the servers, the seats of the client, the repairer and the healer, the
-- healer's next number, the snapshot that is open, and the readers' tickets where none is
pub record StoredOf : Type 0 where
  pub book : BookOf
  pub directory : Sealed
  pub servers : List ServerState
  pub client : Option Seat
  pub repairer : Option Seat
  pub healer : Option Seat
  pub next : ℕ
  pub snapshot : Option SnapshotOf
  pub tickets : Option (List ActorToken)

-- the code of its stripes, the most bytes that an object may have, and how many requests it has served, which is the number of the next one
pub record StoreOf : Type 0 where
  pub geometry : Shape
  pub max : ℕ
  pub served : ℕ
  pub kept : StoredOf

-- its directory and its servers as the definitions see them
abbrev pub places_of : Sealed → List ServerState → Places
places_of d servers = record { directory = d.core; servers = map core_of servers }

abbrev pub places_in : StoreOf → Places
places_in store = places_of store.kept.directory store.kept.servers

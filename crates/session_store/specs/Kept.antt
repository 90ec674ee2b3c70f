-- What every store of a session keeps.
use Rattle.std.specs.Prelude.{◌≡◌, ℕ, ◌+◌, ◌^◌, ◌≤◌, ◌<◌, List, length, drop, map, All, Option, None, Some}
use Rattle.clay_grid.specs.Shape.{stripe_length}
use Rattle.clay_grid.specs.Limits.{IsGeometry}
use Rattle.store_map.specs.declared.actor.Actor.{Actor}
use Rattle.store_map.specs.declared.actor.Actor.TheVariants as actor
use Rattle.store_core.specs.Agreement.{Seat, ActorToken, AgreesWithSeat}
use Rattle.store_core.specs.Directory.{Directory}
use Rattle.store_core.specs.Tokens.{actor_of}
use Rattle.version_seal.specs.Entry.{BookOf, IsBookFor}
use Rattle.session_rules.specs.State.{State}
use Rattle.snapshot_view.specs.Snapshots.{SnapshotOf}
use Rattle.snapshot_view.specs.Tickets.{AgreesWithAll, MayGet}
use Rattle.session_store.specs.Places.{AreServers}
use Rattle.session_store.specs.Stored.{StoreOf}
use Rattle.session_rules.specs.declared.request.Request.{Request}
use Rattle.session_rules.specs.declared.session_answer.Answer.{Answer}
use Rattle.session_store.specs.Standing.{readers, StandsAt}
use Rattle.session_store.specs.Serving.{ServesAll, served_one}

-- an actor's seat is there, under which all numbers from this one on are unused
pub record HasSeat (d : Directory) (who : Actor) (number : ℕ) (place : Option Seat) : Type 0 where
  pub seat : Seat
  pub there : place ≡ Some seat
  pub actor : seat.actor ≡ who
  pub unused : seat.unused ≤ number
  pub agrees : AgreesWithSeat d seat

-- tickets of the readers, in order
pub record AreOfReaders (d : Directory) (tokens : List ActorToken) : Type 0 where
  pub actors : map actor_of tokens ≡ map (λ reader. actor.Client reader) readers
  pub agrees : AgreesWithAll d tokens

-- the readers' tickets: those that a snapshot holds, or seats under which all numbers from this one on are unused
abbrev pub HoldTickets : Directory → ℕ → BookOf → Option SnapshotOf → Option (List ActorToken) → Type 0
HoldTickets d number book None None = ⊥
HoldTickets d number book None (Some tokens) = AreOfReaders d tokens × All (MayGet number) tokens
HoldTickets d number book (Some s) (Some tokens) = ⊥
HoldTickets d number book (Some s) None =
    AreOfReaders d s.tokens × All (MayGet number) (drop (length s.objects) s.tokens) × (s.book ≡ book) × (s.number + 1 ≤ number)

-- a directory and servers of a free book with this code, seats, tickets, and a state of the session at which all of this stands
pub record IsStore (store : StoreOf) : Type 0 where
  pub code : IsGeometry store.geometry
  pub wide : 0 < stripe_length store.geometry
  pub free : IsBookFor store.geometry None store.kept.book
  pub book : store.kept.directory.book ≡ store.kept.book
  pub most : store.kept.directory.core.max ≡ store.max
  pub small : store.max < 2 ^ 32
  pub servers : AreServers store.kept.book store.kept.servers
  pub client : HasSeat store.kept.directory.core (actor.Client 0) store.served store.kept.client
  pub repairer : HasSeat store.kept.directory.core (actor.Repairer 0) store.served store.kept.repairer
  pub healer : HasSeat store.kept.directory.core (actor.Repairer 1) store.kept.next store.kept.healer
  pub tickets : HoldTickets store.kept.directory.core store.served store.kept.book store.kept.snapshot store.kept.tickets
  pub state : State
  pub stands : StandsAt store state

-- a store that may serve one more request
abbrev pub MayServe : StoreOf → Type 0
MayServe store = IsStore store × (store.served + 1 < 2 ^ 32)

-- the request was served, and the store keeps what every store keeps
pub record ServesRequest (request : Request) (old : StoreOf) (answer : Answer) (now : StoreOf) : Type 0 where
  pub serves : ServesAll request old answer now
  pub same : now ≡ served_one old now
  pub kept : IsStore now

-- The session's state at which a store stands.
use Rattle.std.specs.Prelude.{◌≡◌, ℕ, ◌≤◌, ⊤, List, [], length, map, take, get_or, Option, None, Some}
use Rattle.std.specs.List.{range_with_len}
use Rattle.store_map.specs.Laws.{names_of}
use Rattle.store_map.specs.declared.actor.Actor.TheVariants as actor
use Rattle.store_map.specs.declared.placement.Placement.TheVariants as placement
use Rattle.store_core.specs.Calls.{Calls}
use Rattle.session_rules.specs.State.{Snapshot, State}
use Rattle.session_rules.specs.Snapshots.{most_objects}
use Rattle.session_rules.specs.Between.{Seats, IsBetween}
use Rattle.stripe_stamps.specs.Stamped.{HaveContents}
use Rattle.snapshot_view.specs.LookSteps.{versions_kept}
use Rattle.snapshot_view.specs.Snapshots.{SnapshotOf, StandsFor}
use Rattle.snapshot_view.specs.Tickets.{pins_of}
use Rattle.session_store.specs.Stored.{StoreOf, places_in}

-- the clients that hold a snapshot
abbrev pub readers : List ℕ
readers = range_with_len 1 most_objects

-- the seats of a store that has served so many requests: a request's number is that of its call, whoever makes it
abbrev pub seats_at : ℕ → Seats
seats_at served =
    record { client = 0; calls = served; repairer = 0; rebuilds = served; healer = 1; readers = readers; looks = served }

-- calls are known of the requests that were served alone
abbrev pub IsFresh : Calls → ℕ → Type 0
IsFresh calls served = (client number : ℕ) → served ≤ number → calls (actor.Client client) number ≡ None

-- the epochs at which a state's stripe was placed
abbrev pub placed_in : Snapshot → ℕ → List ℕ
placed_in kept number = map (λ chunk. chunk.placed) (get_or kept.stripes number [])

-- a snapshot is kept as the session keeps it: objects with these names, their stripes as they were placed, their versions pinned by the passes, and the
-- bytes
pub record IsKeptAs (kept : Snapshot) (s : SnapshotOf) : Type 0 where
  pub names : map (λ object. object.name) s.objects ≡ names_of kept.numbers
  pub placed :
      map (λ object. map (λ seen. seen.placed.items) object.stripes) s.objects
      ≡ map (λ object. map (λ number. map (λ epoch. placement.At epoch) (placed_in kept number)) object.1) kept.numbers
  pub pins : map pins_of (take (length s.objects) s.tokens) ≡ map versions_kept s.objects
  pub bytes : StandsFor s kept.objects

-- one is open where one is in the session
abbrev pub AreKept : Option Snapshot → Option SnapshotOf → Type 0
AreKept None None = ⊤
AreKept (Some kept) (Some s) = IsKeptAs kept s
AreKept kept s = ⊥

-- the store stands at a state: its places are between two requests there, by the same calls the stamps have the contents of the versions, and no server
-- was emptied more often than requests were served
pub record StandsAt (store : StoreOf) (s : State) : Type 0 where
  pub calls : Calls
  pub stands : List ℕ
  pub between : IsBetween calls store.geometry store.max (seats_at store.served) stands (places_in store) s
  pub contents : HaveContents calls store.kept.directory
  pub fresh : IsFresh calls store.served
  pub next : s.next ≡ store.kept.next
  pub epochs : (server : ℕ) → get_or s.epochs server 0 ≤ store.served
  pub snapshot : AreKept s.snapshot store.kept.snapshot

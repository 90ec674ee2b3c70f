-- What holds between two requests of a session.
use Rattle.std.specs.Prelude.{ℕ, ◌+◌, ◌≢◌, List, []}
use Rattle.clay_grid.specs.Shape.{Shape}
use Rattle.store_map.specs.declared.actor.Actor.TheVariants as actor
use Rattle.store_core.specs.Calls.{Calls}
use Rattle.store_core.specs.Step.{Places}
use Rattle.run_laws.specs.MoreCalls.{AreAmong}
use Rattle.session_rules.specs.State.{State, first_state}
use Rattle.session_rules.specs.declared.request.Request.{Request}
use Rattle.session_rules.specs.Seen.{IsSeenAs, IsQuiet}
use Rattle.session_rules.specs.Sweeps.{KeepsPinned}
use Rattle.session_rules.specs.Beginnings.{new_places}
use Rattle.session_rules.specs.Maps.{IsMapOf}
use Rattle.session_rules.specs.Seats.{MayBeginFrom}
use Rattle.session_rules.specs.Readers.{AreReaders, HoldsSnapshot}

-- whose calls serve a session: a client's serve those of the map, a repairer's the rebuilds, and another repairer's heal; calls and rebuilds are
-- the next numbers of the first two, and the state has the third's. Further clients, the readers, hold a snapshot, by a look each at one of its
-- objects; all of them make it under one number, and looks is the next one
pub record Seats : Type 0 where
  pub client : ℕ
  pub calls : ℕ
  pub repairer : ℕ
  pub rebuilds : ℕ
  pub healer : ℕ
  pub readers : List ℕ
  pub looks : ℕ

-- after a request; one that asks for a snapshot has used a number, whether it took one or not
abbrev pub seats_after : Request → Seats → Seats
seats_after (Request.OfMap call) seats = record seats { calls = seats.calls + 1 }
seats_after (Request.Rebuild name stripe server) seats = record seats { rebuilds = seats.rebuilds + 1 }
seats_after Request.Snap seats = record seats { looks = seats.looks + 1 }
seats_after request seats = seats

-- the places are seen as the state, what the snapshot keeps is pinned, there is nothing to sweep, the versions stand for the state's map by these
-- calls, each seat may begin, and the readers hold the snapshot
pub record IsBetween (calls : Calls) (g : Shape) (max : ℕ) (seats : Seats) (stands : List ℕ) (p : Places) (s : State) :
    Type 0 where
  pub seen : IsSeenAs g max stands p s
  pub pinned : KeepsPinned stands p s
  pub quiet : IsQuiet stands p s
  pub its_map : IsMapOf calls p s
  pub client : MayBeginFrom p.directory (actor.Client seats.client) seats.calls
  pub repairer : MayBeginFrom p.directory (actor.Repairer seats.repairer) seats.rebuilds
  pub healer : MayBeginFrom p.directory (actor.Repairer seats.healer) s.next
  pub apart : seats.repairer ≢ seats.healer
  pub readers : AreReaders seats.client seats.readers
  pub snapshot : HoldsSnapshot calls g seats.readers seats.looks stands p.directory s.snapshot

-- so it is of new places and the first state
abbrev pub BeginningsAreBetween : Type 0
BeginningsAreBetween =
    (calls : Calls) (g : Shape) (max client repairer healer : ℕ) (readers : List ℕ) → repairer ≢ healer → AreReaders client readers →
    let seats : Seats = record { client = client; calls = 0; repairer = repairer; rebuilds = 0; healer = healer; readers = readers; looks = 0 } in
    IsBetween calls g max seats [] (new_places g max) (first_state g)

-- calls that come to be known later leave it so
abbrev pub MoreCallsStayBetween : Type 0
MoreCallsStayBetween =
    (calls more : Calls) (g : Shape) (max : ℕ) (seats : Seats) (stands : List ℕ) (p : Places) (s : State) →
    IsBetween calls g max seats stands p s → AreAmong calls more → IsBetween more g max seats stands p s

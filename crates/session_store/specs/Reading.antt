-- A read of a snapshot that runs alone in a session's places.
use Rattle.std.specs.Prelude.{◌≡◌, ◌≢◌, ◌⊎◌, ℕ, ◌+◌, ◌*◌, ◌^◌, ◌<◌, ◌≤◌, Bool, false, List, [], length, get_or, set, map, Option, None, Some}
use Rattle.clay_grid.specs.Shape.{chunk_count}
use Rattle.store_map.specs.declared.reply.Reply.{Reply}
use Rattle.store_core.specs.Act.{Outcome}
use Rattle.store_core.specs.NextAct.{Job}
use Rattle.store_core.specs.Note.{Kind}
use Rattle.store_core.specs.Read.{part_of}
use Rattle.store_core.specs.Server.{Server}
use Rattle.store_core.specs.Step.{Shortage}
use Rattle.store_core.specs.Told.{Seen, Told}
use Rattle.run_laws.specs.CallLeft.{call_left}
use Rattle.run_laws.specs.State.{Sequel, State}
use Rattle.run_laws.specs.States.{open_parts, open_call}
use Rattle.run_laws.specs.CallAfter.{state_of}
use Rattle.chunk_server.specs.Core.{core_of}
use Rattle.chunk_server.specs.State.{ServerState}
use Rattle.call_steps.specs.declared.need.Need.{Need}
use Rattle.call_steps.specs.declared.need.Need.TheVariants as need
use Rattle.call_steps.specs.CallOf.{CallOf}
use Rattle.call_steps.specs.Steps.{stepped_at_server}
use Rattle.gather_parts.specs.States.{state_in, StandsIn, moved}
use Rattle.snapshot_view.specs.Reads.{ReadOf, reply_of}
use Rattle.snapshot_view.specs.ReadSteps.{need_of, coded}
use Rattle.snapshot_view.specs.declared.read_outcomes.Ending.{Ending}
use Rattle.snapshot_view.specs.declared.read_outcomes.Ending.TheVariants as ending
use Rattle.session_rules.specs.Alone.{AtWork}
use Rattle.session_rules.specs.Reading.{reading_steps}
use Rattle.session_store.specs.declared.places.SessionPlaces.{SessionPlaces}
use Rattle.session_store.specs.Places.{ArePlaces, AreSame, seen_in}

-- where it stands: one that the map refuses gathers nothing, and one for which memory was wanting in a coding has ended so
abbrev pub stands_by : Option Ending → State → State
stands_by None at = at
stands_by (Some ending.NoMemory) at = State.Ending Outcome.NoMemory
stands_by (Some refusal) at = State.Ending (Outcome.Served 0)

abbrev pub state_of_read : ReadOf → State
state_of_read r = stands_by r.ended (state_in r.gatherings (Sequel.Serve 0))

-- at these places
abbrev pub at_work : ReadOf → SessionPlaces → AtWork
at_work r p = record { call = record { pairs = []; at = state_of_read r }; places = seen_in p }

-- ---- one step
-- a read whose next coding or step may be made in these places
pub record MayReadOn (r : ReadOf) (p : SessionPlaces) : Type 0 where
  pub places : ArePlaces p
  pub book : r.gatherings.book ≡ p.book

-- its coding, in which memory was wanting or not
pub record HasCoded (r : ReadOf) (p : SessionPlaces) (after : ReadOf) (now : SessionPlaces) : Type 0 where
  pub needs : need_of r ≡ need.Coder
  pub short : Bool
  pub coded_so : after ≡ coded short r
  pub settled : need_of after ≢ need.Coder
  pub state : short ≡ false → state_in after.gatherings (Sequel.Serve 0) ≡ state_in r.gatherings (Sequel.Serve 0)
  pub reply : short ≡ false → reply_of after ≡ reply_of r
  pub left : now ≡ p

-- its step at a server, in which memory was wanting or not; it is that of each call that stands in its gatherings
pub record HasAsked (r : ReadOf) (p : SessionPlaces) (after : ReadOf) (now : SessionPlaces) : Type 0 where
  pub server : ℕ
  pub before : ServerState
  pub left : ServerState
  pub short : Bool
  pub needs : need_of r ≡ need.Server server
  pub less : server < length p.servers.items
  pub read : before ≡ get_or p.servers.items server before
  pub leads :
      (c : CallOf) → StandsIn c r.gatherings (Sequel.Serve 0) →
      ◌≡◌ {A = Server × CallOf} (core_of left, moved c after.gatherings (Sequel.Serve 0) false short) (stepped_at_server short false c (core_of before))
  pub ended : after.ended ≡ r.ended
  pub reply : reply_of after ≡ reply_of r
  pub items : now.servers.items ≡ set p.servers.items server left
  pub directory : now.directory ≡ p.directory

-- it has made its coding or its step
pub record HasReadOn (r : ReadOf) (p : SessionPlaces) (after : ReadOf) (now : SessionPlaces) : Type 0 where
  pub same : AreSame p now
  pub book : after.gatherings.book ≡ r.gatherings.book
  pub step : HasCoded r p after now ⊎ HasAsked r p after now

-- ---- the whole read
-- a read before its first step, that may run in these places: if the map doesn't refuse it, it gathers of some stripes, which are few, the bytes from a
-- start up to an end
pub record MayRead (r : ReadOf) (p : SessionPlaces) : Type 0 where
  pub places : ArePlaces p
  pub book : r.gatherings.book ≡ p.book
  pub start : ℕ
  pub end : ℕ
  pub stripes : List Seen
  pub begun :
      r.ended ≡ None →
      state_in r.gatherings (Sequel.Serve 0)
      ≡ open_parts p.book.geometry (map (part_of p.book.geometry start end) stripes) (Sequel.Serve 0)
  pub few : 3 * chunk_count p.book.geometry * length stripes + 1 < 2 ^ 62

-- the read has come from its first value and from these places to its present one and to those; what it replies it was to reply from the first on
pub record HasReadTo (first : ReadOf) (before : SessionPlaces) (r : ReadOf) (now : SessionPlaces) : Type 0 where
  pub shortages : List Shortage
  pub run : reading_steps before.book.geometry shortages (at_work first before) ≡ at_work r now
  pub same : AreSame before now
  pub directory : now.directory ≡ before.directory
  pub book : r.gatherings.book ≡ before.book
  pub reply : (given : Reply) → reply_of r ≡ Some given → reply_of first ≡ Some given

-- a call that gathers these bytes, and what its look told it
abbrev pub job_from : ℕ → Job
job_from start = record { note = record { kind = Kind.Get; name = []; offset = start; length = 0 }; target = 0 }

-- whether a coding is next
abbrev pub codings_next : Need → ℕ
codings_next need.Coder = 1
codings_next _ = 0

-- at most the codings and the steps that are left of a read that was told so much, of which one of two is a step
abbrev pub left_of : ℕ → SessionPlaces → List Told → ℕ
left_of start before told = 2 * call_left before.book.geometry 0 0 (job_from start) told

-- so it has after so many of its codings and its steps, and has so many fewer left
pub record ReadsOn (first : ReadOf) (before : SessionPlaces) (r : ReadOf) (now : SessionPlaces) (made : ℕ) : Type 0 where
  pub ran : HasReadTo first before r now
  pub start : ℕ
  pub told : List Told
  pub state :
      r.ended ≡ None →
      record { pairs = []; at = state_in r.gatherings (Sequel.Serve 0) } ≡ open_call before.book.geometry (state_of before.book.geometry (job_from start) told)
  pub left : left_of start before told + codings_next (need_of r) + made ≤ 2 ^ 63

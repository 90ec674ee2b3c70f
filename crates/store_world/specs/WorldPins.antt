-- A call that a world holds and that was answered was served at its pinned point, if it has one.
use Rattle.std.specs.Prelude.{◌≡◌, ℕ, true, List, Some}
use Rattle.std.specs.List.{slice_get}
use Rattle.clay_grid.specs.Limits.{IsGeometry}
use Rattle.store_map.specs.Naming.{IsValid}
use Rattle.store_map.specs.declared.actor.Actor.TheVariants as actor
use Rattle.store_map.specs.declared.script.Script.{Script}
use Rattle.store_core.specs.Act.{Outcome as CoreOutcome}
use Rattle.store_core.specs.Directory.{Event, Point, Directory}
use Rattle.store_core.specs.History.{is_answered}
use Rattle.chunk_server.specs.State.{ServerState}
use Rattle.world_laws.specs.World.{WorldOf}
use Rattle.world_laws.specs.Known.{core_of}
use Rattle.world_laws.specs.Goes.{IsReached}
use Rattle.call_steps.specs.declared.caller_calls.CallerCalls.{CallerCalls}
use Rattle.call_steps.specs.declared.caller_calls.CallerCalls.{CallerCalls}
use Rattle.world_laws.specs.Served.{outcome_at}
use Rattle.world_laws.specs.HeldCore.{Holds}

-- a client's answered call with a pinned point was served at that point
abbrev pub ListsServeAtPins : List Point → List CallerCalls → Type 0
ListsServeAtPins points clients =
    (place i : ℕ) (point : Point) (ended : CoreOutcome) → slice_get points place ≡ Some point → point.actor ≡ actor.Client i → point.event ≡ Event.Pinned →
    outcome_at clients i point.number ≡ Some ended → is_answered ended ≡ true → ended ≡ CoreOutcome.Served place

-- so it is of the lists that hold the core of a world that tokens reach
abbrev pub WorldsServeAtPins : Type 0
WorldsServeAtPins =
    (script : Script) (w : WorldOf) → IsGeometry script.geometry → IsValid script → IsReached script w →
    (d : Directory) (servers : List ServerState) (clients : List CallerCalls) (repairers : List CallerCalls) →
    Holds (core_of script w) d servers clients repairers → ListsServeAtPins d.points clients

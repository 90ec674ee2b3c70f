-- A call that was answered and has a pinned point was served there.
use Rattle.std.specs.Prelude.{◌≡◌, ℕ, true, List, Some}
use Rattle.std.specs.List.{slice_get}
use Rattle.clay_grid.specs.Limits.{IsGeometry}
use Rattle.store_map.specs.Naming.{IsValid}
use Rattle.store_map.specs.declared.actor.Actor.TheVariants as actor
use Rattle.store_map.specs.declared.actor.Token.{Token}
use Rattle.store_map.specs.declared.script.Script.{Script}
use Rattle.store_core.specs.Act.{Outcome}
use Rattle.store_core.specs.Directory.{Event, Point}
use Rattle.store_core.specs.History.{is_answered}
use Rattle.store_core.specs.Schedule.{run_core}
use Rattle.store_core.specs.Step.{Shortage}
use Rattle.store_core.specs.Work.{Ended, Calling}

-- a client's answered call with a pinned point was served at that point
abbrev pub ServeAtPins : List Point → List Calling → Type 0
ServeAtPins points clients =
    (place i : ℕ) (point : Point) (calling : Calling) (ended : Ended) → slice_get points place ≡ Some point → point.actor ≡ actor.Client i →
    point.event ≡ Event.Pinned → slice_get clients i ≡ Some calling → slice_get calling.ended point.number ≡ Some ended →
    is_answered ended.outcome ≡ true → ended.outcome ≡ Outcome.Served place

-- so it is in every run of a valid script, whatever was wanting of memory
abbrev pub RunsServeAtPins : Type 0
RunsServeAtPins =
    (script : Script) (shortages : List Shortage) → IsGeometry script.geometry → IsValid script → (tokens : List Token) →
    ServeAtPins (run_core script shortages tokens).directory.points (run_core script shortages tokens).clients

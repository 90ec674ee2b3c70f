-- Each call of a client that was answered has its point.
use Rattle.std.specs.Prelude.{◌≡◌, ℕ, List, Some, ⊤}
use Rattle.std.specs.List.{slice_get}
use Rattle.clay_grid.specs.Limits.{IsGeometry}
use Rattle.store_map.specs.Naming.{IsValid}
use Rattle.store_map.specs.declared.actor.Actor.{Actor}
use Rattle.store_map.specs.declared.actor.Actor.TheVariants as actor
use Rattle.store_map.specs.declared.actor.Token.{Token}
use Rattle.store_map.specs.declared.script.Script.{Script}
use Rattle.store_core.specs.Act.{Outcome}
use Rattle.store_core.specs.Directory.{Event, Point}
use Rattle.store_core.specs.Schedule.{run_core}
use Rattle.store_core.specs.Step.{Shortage}
use Rattle.store_core.specs.Work.{Ended, Calling}

-- the event of a reply or of a commit
abbrev pub IsReply : Event → Type 0
IsReply (Event.Answer given) = ⊤
IsReply Event.Done = ⊤
IsReply event = ⊥

abbrev pub IsPin : Event → Type 0
IsPin Event.Pinned = ⊤
IsPin event = ⊥

-- at this place stands a point of the call
pub record PointAt (who : Actor) (number : ℕ) (Is : Event → Type 0) (points : List Point) (place : ℕ) : Type 0 where
  pub point : Point
  pub found : slice_get points place ≡ Some point
  pub mine : point.actor ≡ who
  pub of_call : point.number ≡ number
  pub is : Is point.event

-- an answered call's point is the one that it was told
abbrev pub HasItsPoint : Actor → ℕ → List Point → Outcome → Type 0
HasItsPoint who number points (Outcome.Answered point given) = PointAt who number IsReply points point
HasItsPoint who number points (Outcome.Served point) = PointAt who number IsPin points point
HasItsPoint who number points outcome = ⊤

-- so has each call of a client in every run
abbrev pub AnswersHavePoints : Type 0
AnswersHavePoints =
    (script : Script) (shortages : List Shortage) → IsGeometry script.geometry → IsValid script → (tokens : List Token) →
    (i : ℕ) (calling : Calling) → slice_get (run_core script shortages tokens).clients i ≡ Some calling →
    (number : ℕ) (ended : Ended) → slice_get calling.ended number ≡ Some ended → HasItsPoint (actor.Client i) number (run_core script shortages tokens).directory.points ended.outcome

-- Where a rebuild stands, by its stage.
use Rattle.std.specs.Prelude.{ℕ, [], Option, None, Some}
use Rattle.clay_grid.specs.Shape.{Shape}
use Rattle.store_core.specs.Told.{Seen as CoreSeen}
use Rattle.store_core.specs.Act.{Outcome as CoreOutcome}
use Rattle.run_laws.specs.Stage.{Aim, Stage as CoreStage}
use Rattle.run_laws.specs.State.{Sequel, State}
use Rattle.run_laws.specs.States.{stage_state}
use Rattle.call_steps.specs.declared.seen.Seen.{Seen}
use Rattle.stripe_stamps.specs.SeenStripes.{seen_in}
use Rattle.gathering.specs.Courses.{CourseOf, new_course}
use Rattle.gathering.specs.Gathers.{GatherOf}
use Rattle.repairer.specs.declared.stage.RepairStage.{RepairStage}
use Rattle.repairer.specs.declared.stage.RepairStage.TheVariants as stage

-- the pinned stripe, once it was seen
abbrev pub seen_at : Option Seen → CoreSeen
seen_at None = record { stripe = 0; version = 0; placed = [] }
seen_at (Some seen) = seen_in seen

-- the course of its gathering, which begins once that is made
abbrev pub course_at : Shape → CoreSeen → ℕ → Option GatherOf → CourseOf
course_at g seen target None = new_course g (Aim.Chunk seen target)
course_at g seen target (Some gather) = gather.course

-- a rebuild whose gathering is at a stage
abbrev pub gathered_state : CoreSeen → ℕ → CoreStage → State
gathered_state seen target at = stage_state (State.Confirming seen target) (Aim.Chunk seen target) [] (Sequel.Confirm seen target) at

-- by the stage: the pinned stripe, the server whose chunk is made, how far its gathering has come, the epoch at which it was placed, and the outcome
abbrev pub state_by : RepairStage → CoreSeen → ℕ → CoreStage → ℕ → CoreOutcome → State
state_by stage.Start seen target at epoch outcome = State.Start
state_by stage.Gathering seen target at epoch outcome = gathered_state seen target at
state_by stage.Confirming seen target at epoch outcome = State.Confirming seen target
state_by stage.Installing seen target at epoch outcome = State.Installing seen target
state_by stage.Placing seen target at epoch outcome = State.Placing target epoch
state_by stage.Ending seen target at epoch outcome = State.Ending outcome
state_by stage.Finished seen target at epoch outcome = State.Finished outcome

-- the stage of a rebuild's state
abbrev pub stage_of : State → RepairStage
stage_of (State.Gather aim asking parts after) = stage.Gathering
stage_of (State.Confirming seen target) = stage.Confirming
stage_of (State.Installing seen target) = stage.Installing
stage_of (State.Placing target epoch) = stage.Placing
stage_of (State.Ending outcome) = stage.Ending
stage_of (State.Finished outcome) = stage.Finished
stage_of at = stage.Start

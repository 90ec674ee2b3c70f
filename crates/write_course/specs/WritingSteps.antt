-- The steps of a writing at servers, and what it does next.
use Rattle.std.specs.Prelude.{◌≡◌, ℕ, Bool, true, List}
use Rattle.clay_grid.specs.Shape.{Shape}
use Rattle.store_map.specs.declared.placement.Placement.{Placement}
use Rattle.store_map.specs.declared.reply.Reply.TheVariants as reply
use Rattle.store_core.specs.Told.{Told, Lost}
use Rattle.store_core.specs.Act.{ServerStep, Outcome}
use Rattle.store_core.specs.Server.{Server, at_server}
use Rattle.run_laws.specs.State.{State}
use Rattle.run_laws.specs.States.{settle_state}
use Rattle.run_laws.specs.WriteAfter.{preparing_after}
use Rattle.write_course.specs.Writings.{WritingOf, versions_of, is_preparing, is_settling}
use Rattle.write_course.specs.declared.writing_stage.WritingStage.{WritingStage}
use Rattle.write_course.specs.declared.writing_stage.WritingStage.TheVariants as doing

-- one step at the server, in which memory was wanting or not
abbrev pub stepped : Shape → Bool → Server → State → Server × State
stepped g short s (State.Preparing stripe version server servers row later placed versions) =
    let after : Server × Told = at_server short (ServerStep.Prepare version) s in
    (after.0, preparing_after g stripe version servers row later placed versions after.1)
stepped g short s (State.Settling point place places) =
    let after : Server × Told = at_server short (ServerStep.Settle place.1) s in
    (after.0, settle_state point places)
stepped g short s at = (s, at)

-- what it is told then
abbrev pub told_at : Bool → Server → State → Told
told_at short s (State.Preparing stripe version server servers row later placed versions) = (at_server short (ServerStep.Prepare version) s).1
told_at short s (State.Settling point place places) = (at_server short (ServerStep.Settle place.1) s).1
told_at short s at = Told.NotMade

-- what a writing's state is, by what it does next
abbrev pub IsDoing : WritingStage → WritingOf → Type 0
IsDoing doing.Preparing w = is_preparing w.state ≡ true
IsDoing doing.Committing w = (placed : List (List Placement)) × (w.state ≡ State.Committing (versions_of w.stamps) placed)
IsDoing doing.Committed w = w.state ≡ State.Committed (versions_of w.stamps)
IsDoing doing.Settling w = is_settling w.state ≡ true
IsDoing doing.Done w = (point : ℕ) × (w.state ≡ State.Finished (Outcome.Answered point reply.Done))
IsDoing doing.TooManyAway w = (stripe : ℕ) × (missing : List Lost) × (w.state ≡ State.Ending (Outcome.Unavailable stripe missing))
IsDoing doing.Short w = w.state ≡ State.Ending Outcome.NoMemory

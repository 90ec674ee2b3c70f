-- The fields of a rebuild as callers see them.
use Rattle.std.specs.Prelude.{ℕ, List, replicate, Option, None, Some}
use Rattle.clay_grid.specs.Shape.{chunk_count}
use Rattle.run_laws.specs.State.{State}
use Rattle.call_steps.specs.CallOf.{CallOf}
use Rattle.call_steps.specs.Outcomes.{repair_outcome_of}
use Rattle.repairer.specs.declared.stage.RepairStage.{RepairStage}
use Rattle.repairer.specs.declared.repair_call.RepairCall.TheInside.{Inside}
use Rattle.repairer.specs.Standing.{seen_at, course_at, state_by}
use Rattle.repairer.specs.Calls.{call_at}

-- nothing is taken before the gathering is made
abbrev pub takes_at : ℕ → Option (List ℕ) → List ℕ
takes_at servers None = replicate servers 0
takes_at servers (Some takes) = takes

-- where it would stand at a stage
abbrev pub state_at : RepairStage → Inside → State
state_at at a =
    state_by at (seen_at a.looked.value) a.rebuild.now.server (course_at a.opening.geometry (seen_at a.looked.value) a.rebuild.now.server a.gather).stage a.epoch (repair_outcome_of a.outcome)

-- what callers would see at a stage
abbrev pub call_by : RepairStage → Inside → CallOf
call_by at a = call_at a.opening a.rebuild.now a.number a.ticket (state_at at a) (takes_at (chunk_count a.opening.geometry) a.takes) a.due a.coding a.step

-- what they see
abbrev pub call_in : Inside → CallOf
call_in a = call_by a.stage a

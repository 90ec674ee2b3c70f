-- The steps of a valid script's actors are few.
use Rattle.std.proofs.Common.{◌≡◌, ℕ, ◌+◌, ◌<◌, ◌≤◌, ◌^◌, List, inl, inr, arith}
use Rattle.clay_grid.specs.Limits.{IsGeometry}
use Rattle.store_map.specs.Naming.{IsValid}
use Rattle.store_map.specs.declared.script.Script.{Script}
use Rattle.store_core.specs.NextAct.{Job}
use Rattle.store_core.specs.Work.{Work, Calling}
use Rattle.run_laws.proofs.Runs.{CanRun}
use Rattle.run_laws.proofs.ScriptBounds.{client_steps_most, repairer_steps_most}
use Rattle.run_laws.proofs.Scripts.{can_run}
use Rattle.world_laws.specs.World.{DoingOf, steps_of}
use Rattle.world_laws.specs.StandsFor.{DoingStands}
use Rattle.thread_laws.specs.Measure.{left_of, bound_of, HasTargets}
use Rattle.thread_laws.specs.Room.{IsWorkOf, ActorsHaveRoom}

made : (script : Script) (jobs : List Job) (calling : Calling) (doing : DoingOf) → DoingStands script jobs calling doing → calling.steps ≡ steps_of doing
made script jobs calling (DoingOf.Between token) stands = stands.none
made script jobs calling (DoingOf.InCall call steps) stands = stands.made

targets_of : (script : Script) (i : ℕ) (work : Work) → CanRun script → IsWorkOf script i work → HasTargets script work
targets_of script i work can (inl is) = can.clients.targets i work is
targets_of script i work can (inr is) = can.repairers.targets i work is

few_of : (script : Script) (i : ℕ) (work : Work) → IsGeometry script.geometry → IsValid script → CanRun script → IsWorkOf script i work → bound_of script work < 2 ^ 42
few_of script i work geometry valid can (inl is) =
    below (bound_of script work) (client_steps_most script geometry valid can.some i 0 work is)
  where
    below : (n : ℕ) → n ≤ 2199023255552 → n < 2 ^ 42
    below n h = omega (arith, h)
few_of script i work geometry valid can (inr is) =
    below (bound_of script work) (repairer_steps_most script geometry valid i 0 work is)
  where
    below : (n : ℕ) → n ≤ 307200 → n < 2 ^ 42
    below n h = omega (arith, h)

room : (steps made left bound : ℕ) → made ≡ steps → made + left ≤ bound → bound < 2 ^ 42 → steps + 1 < 2 ^ 64
room steps made left bound e f h = omega (arith, e, f, h)

pub actors_have_room : ActorsHaveRoom
actors_have_room script i work geometry valid is =
    let can : CanRun script = can_run script geometry valid in
    let few : bound_of script work < 2 ^ 42 = few_of script i work geometry valid can is in
    record {
      targets = targets_of script i work can is;
      few = few;
      steps = λ who at a acting.
          room (steps_of a.doing) acting.calling.steps (left_of script work acting.calling) (bound_of script work) (made script work.jobs acting.calling a.doing acting.stands.doing) acting.bounded few;
    }

-- What a call does next, as its machine tells it: without notes, layers, placements and outcomes.
use Rattle.std.specs.Prelude.{◌≡◌, Bool, true, false}
use Rattle.store_core.specs.Act.{Act as CoreAct, DirectoryStep, ServerStep}
use Rattle.call_steps.specs.declared.need.Need.{Need}
use Rattle.call_steps.specs.declared.need.Need.TheVariants as need
use Rattle.call_steps.specs.declared.act.Act.{Act}
use Rattle.call_steps.specs.declared.act.Act.TheVariants as act
use Rattle.call_steps.specs.declared.act.DirectoryAct.{DirectoryAct}
use Rattle.call_steps.specs.declared.act.DirectoryAct.TheVariants as there
use Rattle.call_steps.specs.declared.act.ServerAct.{ServerAct}
use Rattle.call_steps.specs.declared.act.ServerAct.TheVariants as here
use Rattle.call_steps.specs.CallOf.{CallOf, act_of}
use Rattle.call_steps.specs.Steps.{need_of}

-- a step at the directory
abbrev pub directory_act : DirectoryStep → DirectoryAct
directory_act (DirectoryStep.Look note) = there.Look
directory_act (DirectoryStep.LookRepair note) = there.LookRepair
directory_act DirectoryStep.Draw = there.Draw
directory_act (DirectoryStep.Commit placed) = there.Commit
directory_act DirectoryStep.End = there.End
directory_act DirectoryStep.Confirm = there.Confirm
directory_act (DirectoryStep.Repaired server epoch) = there.Repaired server epoch
directory_act DirectoryStep.NextGarbage = there.NextGarbage
directory_act (DirectoryStep.Swept version) = there.Swept (record { 0 = version })
directory_act (DirectoryStep.Reap actor) = there.Reap actor

-- a step at a server
abbrev pub server_act : ServerStep → ServerAct
server_act (ServerStep.Prepare version) = here.Prepare (record { 0 = version })
server_act (ServerStep.Settle version) = here.Settle (record { 0 = version })
server_act (ServerStep.Has version) = here.Has (record { 0 = version })
server_act (ServerStep.Fetch version layers) = here.Fetch (record { 0 = version })
server_act (ServerStep.Install version) = here.Install (record { 0 = version })
server_act (ServerStep.Discard version) = here.Discard (record { 0 = version })
server_act ServerStep.Wipe = here.Wipe
server_act ServerStep.Down = here.Down
server_act ServerStep.Up = here.Up

-- by its act, and whether coding is due before
abbrev pub act_by : CoreAct → Bool → Act
act_by (CoreAct.Finish outcome) due = act.Finished
act_by step true = act.Coding
act_by (CoreAct.AtDirectory step) false = act.Directory (directory_act step)
act_by (CoreAct.AtServer server step) false = act.Server server (server_act step)

-- of a call
abbrev pub act_now : CallOf → Act
act_now c = act_by (act_of c) c.due

-- where it is done
abbrev pub need_for : Act → Need
need_for (act.Directory step) = need.Directory
need_for (act.Server server step) = need.Server server
need_for act.Coding = need.Coder
need_for act.Finished = need.Finished

-- what a call needs is the place of what it does next
abbrev pub ActsTellNeeds : Type 0
ActsTellNeeds = (c : CallOf) → need_for (act_now c) ≡ need_of c

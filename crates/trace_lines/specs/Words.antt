-- How the parts of a step's line are spelled.
use Rattle.std.specs.Prelude.{ℕ, List, [], Bool, true, false, ◌++◌, codes, decimal}
use Rattle.store_map.specs.declared.actor.Actor.{Actor}
use Rattle.store_map.specs.declared.actor.Actor.TheVariants as actor
use Rattle.call_steps.specs.declared.act.Act.{Act}
use Rattle.call_steps.specs.declared.act.Act.TheVariants as act
use Rattle.call_steps.specs.declared.act.DirectoryAct.{DirectoryAct}
use Rattle.call_steps.specs.declared.act.DirectoryAct.TheVariants as there
use Rattle.call_steps.specs.declared.act.ServerAct.{ServerAct}
use Rattle.call_steps.specs.declared.act.ServerAct.TheVariants as here
use Rattle.store_map.specs.CallNames.{client_text, repair_text}

-- cI, rI, s or o
abbrev pub actor_text : Actor → List ℕ
actor_text (actor.Client i) = codes "c" ++ decimal i
actor_text (actor.Repairer i) = codes "r" ++ decimal i
actor_text actor.Sweeper = codes "s"
actor_text actor.Operator = codes "o"

-- the call of this number: cI.N, rI.N, s or o
abbrev pub caller_text : Actor → ℕ → List ℕ
caller_text (actor.Client i) number = client_text (record { client = i; number = number })
caller_text (actor.Repairer i) number = repair_text (record { repairer = i; number = number })
caller_text actor.Sweeper number = codes "s"
caller_text actor.Operator number = codes "o"

-- behind the call, where memory was wanting in the coding before the step
abbrev pub shortage_text : Bool → List ℕ
shortage_text true = codes "!"
shortage_text false = []

-- ACT at the directory
abbrev pub directory_act_text : DirectoryAct → List ℕ
directory_act_text there.Look = codes "look"
directory_act_text there.LookRepair = codes "lookrepair"
directory_act_text there.Draw = codes "draw"
directory_act_text there.Commit = codes "commit"
directory_act_text there.End = codes "end"
directory_act_text there.Confirm = codes "confirm"
directory_act_text (there.Repaired server epoch) = codes "repaired " ++ decimal server ++ codes " " ++ decimal epoch
directory_act_text there.NextGarbage = codes "garbage"
directory_act_text (there.Swept version) = codes "swept " ++ decimal version.0
directory_act_text (there.Reap actor) = codes "reap " ++ actor_text actor

-- ACT at a server
abbrev pub server_act_text : ServerAct → List ℕ
server_act_text (here.Prepare version) = codes "prepare " ++ decimal version.0
server_act_text (here.Settle version) = codes "settle " ++ decimal version.0
server_act_text (here.Has version) = codes "has " ++ decimal version.0
server_act_text (here.Fetch version) = codes "fetch " ++ decimal version.0
server_act_text (here.Install version) = codes "install " ++ decimal version.0
server_act_text (here.Discard version) = codes "discard " ++ decimal version.0
server_act_text here.Wipe = codes "wipe"
server_act_text here.Down = codes "down"
server_act_text here.Up = codes "up"

-- PLACE ACT
abbrev pub act_text : Act → List ℕ
act_text (act.Directory step) = codes "d " ++ directory_act_text step
act_text (act.Server server step) = decimal server ++ codes " " ++ server_act_text step
act_text act.Coding = codes "- code"
act_text act.Finished = codes "- finish"

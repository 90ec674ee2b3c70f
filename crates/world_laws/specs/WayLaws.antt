-- A call in work has a step left, and so it needs a place.
use Rattle.std.specs.Prelude.{Bool, ⊤}
use Rattle.store_map.specs.Naming.{IsValid}
use Rattle.store_map.specs.declared.actor.Actor.{Actor}
use Rattle.store_map.specs.declared.script.Script.{Script}
use Rattle.store_core.specs.Act.{Act}
use Rattle.store_core.specs.Work.{Work}
use Rattle.call_steps.specs.declared.need.Need.{Need}
use Rattle.call_steps.specs.declared.need.Need.TheVariants as need
use Rattle.call_steps.specs.CallOf.{CallOf, act_of}
use Rattle.call_steps.specs.Steps.{need_of}
use Rattle.call_steps.specs.Ready.{ready}
use Rattle.world_laws.specs.World.{DoingOf, ActorOf}
use Rattle.world_laws.specs.ActorAfter.{HasTurn, actor_after}

-- the act is a step
abbrev pub IsStep : Act → Type 0
IsStep (Act.Finish outcome) = ⊥
IsStep act = ⊤

-- the call that the actor has in work, if it has one, isn't over
abbrev pub IsUnderWay : DoingOf → Type 0
IsUnderWay (DoingOf.Between token) = ⊤
IsUnderWay (DoingOf.InCall call steps) = IsStep (act_of call)

-- the directory or a server
abbrev pub IsPlace : Need → Type 0
IsPlace need.Directory = ⊤
IsPlace (need.Server server) = ⊤
IsPlace other = ⊥

-- so it is after each step; and such an actor's next step is at the directory or at a server, once a coding that is due was made
pub record CallsAreUnderWay (script : Script) (a : ActorOf) : Type 0 where
  pub after : (c : CallOf) → IsUnderWay (actor_after c a).doing
  pub needs :
      (who : Actor) (work : Work) (c : CallOf) (coding : Bool) → IsValid script → IsUnderWay a.doing → HasTurn script who work a c → IsPlace (need_of (ready coding c))

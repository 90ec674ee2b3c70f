-- An actor's next step: its call before it, and what the actor is after it.
use Rattle.std.specs.Prelude.{◌≡◌, ◌+◌, true, List, [], ◌∷◌, ◌++◌, length, Some}
use Rattle.std.specs.List.{slice_get}
use Rattle.store_map.specs.Limits.{tries_of}
use Rattle.store_map.specs.declared.script.Script.{Script}
use Rattle.store_map.specs.declared.actor.Actor.{Actor}
use Rattle.store_core.specs.Act.{Act}
use Rattle.store_core.specs.NextAct.{Job}
use Rattle.store_core.specs.Agreement.{ActorToken}
use Rattle.store_core.specs.Tokens.{actor_of}
use Rattle.store_core.specs.Work.{Ended, Work, has_step}
use Rattle.call_steps.specs.CallOf.{CallOf, act_of}
use Rattle.call_steps.specs.Steps.{IsDueInPass}
use Rattle.call_steps.specs.Stands.{IsFirst}
use Rattle.world_laws.specs.World.{DoingOf, ActorOf, steps_of}
use Rattle.world_laws.specs.Known.{calling_of}

-- a call that begins: that of the next job, with the actor's ticket
pub record Begins (script : Script) (jobs : List Job) (ended : List Ended) (token : ActorToken) (c : CallOf) : Type 0 where
  pub job : Job
  pub is_next : slice_get jobs (length ended) ≡ Some job
  pub first : IsFirst script.geometry (tries_of script) job (length ended) c
  pub held : c.token ≡ token

-- an actor's call before its next step: the one in work, or one that begins
abbrev pub IsCallBefore : Script → List Job → List Ended → DoingOf → CallOf → Type 0
IsCallBefore script jobs ended (DoingOf.Between token) c = Begins script jobs ended token c
IsCallBefore script jobs ended (DoingOf.InCall call steps) c = c ≡ call

-- an actor that has a step, with this call before it
pub record HasTurn (script : Script) (who : Actor) (work : Work) (a : ActorOf) (c : CallOf) : Type 0 where
  pub may : has_step work (calling_of script a) ≡ true
  pub call : IsCallBefore script work.jobs a.ended a.doing c
  pub due : IsDueInPass c
  pub whose : actor_of c.token ≡ who

-- an actor whose step led its call to this act and this value: the call has ended with this outcome and what it took, or it goes on with one step more
abbrev pub actor_after_by : Act → CallOf → ActorOf → ActorOf
actor_after_by (Act.Finish outcome) c a =
    record { ended = a.ended ++ record { outcome = outcome; takes = c.takes } ∷ []; doing = DoingOf.Between c.token }
actor_after_by act c a = record a { doing = DoingOf.InCall c (steps_of a.doing + 1) }

-- after a step that led its call to this value
abbrev pub actor_after : CallOf → ActorOf → ActorOf
actor_after c a = actor_after_by (act_of c) c a

-- A step of an actor, by what its wrapper says of it.
use Rattle.std.specs.Prelude.{◌≡◌, ℕ, ◌<◌, Bool, false, List, length}
use Rattle.clay_grid.specs.Shape.{chunk_count}
use Rattle.store_map.specs.Limits.{size_of}
use Rattle.store_map.specs.declared.actor.Actor.{Actor}
use Rattle.store_map.specs.declared.script.Script.{Script}
use Rattle.store_core.specs.ActPlace.{ActPlace}
use Rattle.store_core.specs.Lists.{change_at}
use Rattle.store_core.specs.Work.{Work}
use Rattle.thread_laws.specs.MadeSteps.{MadeStep}
use Rattle.thread_laws.specs.OwnSteps.{own_steps}
use Rattle.call_steps.specs.declared.need.Need.TheVariants as need
use Rattle.call_steps.specs.CallOf.{CallOf}
use Rattle.call_steps.specs.Steps.{need_of}
use Rattle.call_steps.specs.Ready.{ready}
use Rattle.thread_laws.specs.HasMade.{HasMadeAtServer, HasMadeAtDirectory}
use Rattle.thread_laws.specs.Entries.{last_of}
use Rattle.thread_laws.specs.Noted.{Noted}
use Rattle.world_laws.specs.World.{ActorOf}
use Rattle.world_laws.specs.ActorAfter.{HasTurn, actor_after}
use Rattle.thread_laws.specs.Logs.{Logs, log_of, own_at}
use Rattle.thread_laws.specs.Measure.{left_at, HasTargets}
use Rattle.thread_laws.specs.Callers.{IsCalling}

-- what turns have seen, where that of one server has seen more, and that of the directory
abbrev pub with_log : ℕ → List (ℕ × MadeStep) → Logs → Logs
with_log j log seen = record seen { servers = change_at j (λ _. log) seen.servers }

abbrev pub with_notes : List (ℕ × Noted) → Logs → Logs
with_notes log seen = record seen { directory = log }

-- the greatest moment of an actor's own steps
abbrev pub last_own : ℕ → ℕ → Logs → ℕ
last_own servers number seen = last_of (own_steps servers (own_at number seen))

-- an actor's call before its step and after the coding before it; in a call that begins memory was not wanting yet
pub record IsReady (script : Script) (who : Actor) (work : Work) (a : ActorOf) (c : CallOf) : Type 0 where
  pub first : CallOf
  pub turn : HasTurn script who work a first
  pub ample : first.coding ≡ false
  pub coding : Bool
  pub is : c ≡ ready coding first

-- it goes on, with fewer steps left
pub record CallsOn (script : Script) (who : Actor) (work : Work) (before after : ActPlace → List MadeStep) (a : ActorOf) : Type 0 where
  pub acting : IsCalling script who work after a
  pub falls : left_at script work after < left_at script work before

-- so does a client or a repairer after a step at a server
abbrev pub CallersGoOnAtServers : Type 0
CallersGoOnAtServers =
    (script : Script) (who : Actor) (work : Work) (number server : ℕ) (seen : Logs) (now : List (ℕ × MadeStep)) (a : ActorOf) (before after : CallOf) →
    HasTargets script work → length seen.servers ≡ chunk_count script.geometry → server < chunk_count script.geometry → IsCalling script who work (own_at number seen) a →
    IsReady script who work a before → need_of before ≡ need.Server server →
    HasMadeAtServer number (last_own (chunk_count script.geometry) number seen) (log_of seen server) now before after →
    CallsOn script who work (own_at number seen) (own_at number (with_log server now seen)) (actor_after after a)

-- and at the directory
abbrev pub CallersGoOnAtDirectory : Type 0
CallersGoOnAtDirectory =
    (script : Script) (who : Actor) (work : Work) (number : ℕ) (seen : Logs) (now : List (ℕ × Noted)) (a : ActorOf) (before after : CallOf) →
    HasTargets script work → IsCalling script who work (own_at number seen) a → IsReady script who work a before → need_of before ≡ need.Directory →
    HasMadeAtDirectory number (last_own (chunk_count script.geometry) number seen) (size_of script) seen.directory now before after →
    CallsOn script who work (own_at number seen) (own_at number (with_notes now seen)) (actor_after after a)

-- a turn that has seen more, but of its own entries the same, leaves an actor as it was
abbrev pub CallersSeeMore : Type 0
CallersSeeMore =
    (script : Script) (who : Actor) (work : Work) (number : ℕ) (seen now : Logs) (a : ActorOf) → ((place : ActPlace) → own_at number now place ≡ own_at number seen place) →
    IsCalling script who work (own_at number seen) a → IsCalling script who work (own_at number now) a

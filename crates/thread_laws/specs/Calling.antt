-- What the call of a client or a repairer knows before its step, and the numbers of all actors' turns.
use Rattle.std.specs.Prelude.{◌≡◌, ℕ, ◌+◌, ◌<◌, List, length}
use Rattle.store_map.specs.declared.actor.Actor.{Actor}
use Rattle.store_map.specs.declared.actor.Actor.TheVariants as actor
use Rattle.store_map.specs.declared.script.Script.{Script}
use Rattle.store_core.specs.ActPlace.{ActPlace}
use Rattle.store_core.specs.Tokens.{actor_of}
use Rattle.store_core.specs.Work.{Work}
use Rattle.thread_laws.specs.MadeSteps.{MadeStep}
use Rattle.call_steps.specs.CallOf.{CallOf}
use Rattle.thread_laws.specs.Noted.{tokens_after}
use Rattle.world_laws.specs.Tokens.{first_token, IsUsedBelow}
use Rattle.thread_laws.specs.Numbers.{Counts, IsTurnOf}
use Rattle.world_laws.specs.World.{ActorOf}
use Rattle.thread_laws.specs.Callers.{IsCalling}
use Rattle.thread_laws.specs.Stepped.{IsReady}

-- the ticket is its actor's, and the one that the actor's own steps lead to; the call's number is that of the calls that have ended
pub record KnowsItself (who : Actor) (at : ActPlace → List MadeStep) (a : ActorOf) (c : CallOf) : Type 0 where
  pub whose : actor_of c.token ≡ who
  pub token : tokens_after (at ActPlace.Directory) (first_token (actor_of c.token)) ≡ c.token
  pub number : c.number ≡ length a.ended
  pub used : IsUsedBelow (length a.ended + 1) c.token

abbrev pub CallsKnowThemselves : Type 0
CallsKnowThemselves =
    (script : Script) (who : Actor) (work : Work) (at : ActPlace → List MadeStep) (a : ActorOf) (c : CallOf) → IsCalling script who work at a →
    IsReady script who work a c → KnowsItself who at a c

-- clients, repairers, the sweeper, the operator
pub record HaveNumbers (of : Counts) : Type 0 where
  pub client : (i : ℕ) → i < of.clients → IsTurnOf of i (actor.Client i)
  pub repairer : (i : ℕ) → i < of.repairers → IsTurnOf of (of.clients + i) (actor.Repairer i)
  pub sweeper : IsTurnOf of (of.clients + of.repairers) actor.Sweeper
  pub operator : IsTurnOf of (of.clients + of.repairers + 1) actor.Operator

abbrev pub ActorsHaveNumbers : Type 0
ActorsHaveNumbers = (of : Counts) → HaveNumbers of

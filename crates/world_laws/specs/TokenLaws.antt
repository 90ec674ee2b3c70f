-- The directory agrees with the tickets of all actors, after every step.
use Rattle.std.specs.Prelude.{◌≡◌, ℕ, Bool, false, Some}
use Rattle.std.specs.List.{slice_get}
use Rattle.store_map.specs.declared.actor.Actor.{Actor}
use Rattle.store_map.specs.declared.actor.Actor.TheVariants as actor
use Rattle.store_map.specs.declared.script.Script.{Script}
use Rattle.store_core.specs.Act.{DirectoryStep}
use Rattle.store_core.specs.Agreement.{Agrees}
use Rattle.store_core.specs.Directory.{Directory}
use Rattle.store_core.specs.AtDirectory.{at_directory}
use Rattle.store_core.specs.Server.{Server}
use Rattle.store_core.specs.Work.{Work}
use Rattle.call_steps.specs.CallOf.{CallOf}
use Rattle.call_steps.specs.Steps.{stepped_at_directory, stepped_at_server, HoldsItsPass}
use Rattle.call_steps.specs.Ready.{ready}
use Rattle.call_steps.specs.StandLaws.{HasPassOfItsKind}
use Rattle.sweeper.specs.Sweeps.{SweeperOf, stepped_at_directory as swept_at_directory}
use Rattle.world_laws.specs.World.{ActorOf, WorldOf, with_directory, with_server, with_client, with_repairer, with_sweeper}
use Rattle.world_laws.specs.FirstWorld.{IsFirstWorld, new_actor}
use Rattle.world_laws.specs.ActorAfter.{HasTurn, actor_after}
use Rattle.world_laws.specs.Tokens.{TokensAgree, first_token}

-- in the first world, where each actor has the ticket of its own
abbrev pub FirstTokensAgree : Type 0
FirstTokensAgree =
    (script : Script) (w : WorldOf) → IsFirstWorld script w →
    ((i : ℕ) (a : ActorOf) → slice_get w.clients i ≡ Some a → a ≡ new_actor (first_token (actor.Client i))) →
    ((i : ℕ) (a : ActorOf) → slice_get w.repairers i ≡ Some a → a ≡ new_actor (first_token (actor.Repairer i))) →
    TokensAgree w

-- an actor's turn, where `put` puts it back: if at the directory the ticket that its call has then agrees, so do all
pub record TurnsAgree (script : Script) (who : Actor) (a : ActorOf) (put : ActorOf → WorldOf → WorldOf) (w : WorldOf) : Type 0 where
  pub pass : (work : Work) (c : CallOf) → HasTurn script who work a c → HoldsItsPass c → HasPassOfItsKind w.directory c
  pub directory :
      (work : Work) (c : CallOf) (coding short due : Bool) → HasTurn script who work a c →
      let stepped : Directory × CallOf = stepped_at_directory short due (ready coding c) w.directory in
      Agrees stepped.0 stepped.1.token → TokensAgree (put (actor_after stepped.1 a) (with_directory stepped.0 w))
  pub server :
      (work : Work) (c : CallOf) (server : ℕ) (s : Server) (coding short due : Bool) → HasTurn script who work a c →
      let stepped : Server × CallOf = stepped_at_server short due (ready coding c) s in
      TokensAgree (put (actor_after stepped.1 a) (with_server server stepped.0 w))

-- in a world whose tickets agree: turns of clients and repairers, and steps of the sweeper and the operator at the directory
pub record TokensStayAgreed (script : Script) (w : WorldOf) : Type 0 where
  pub client : (i : ℕ) (a : ActorOf) → slice_get w.clients i ≡ Some a → TurnsAgree script (actor.Client i) a (with_client i) w
  pub repairer : (i : ℕ) (a : ActorOf) → slice_get w.repairers i ≡ Some a → TurnsAgree script (actor.Repairer i) a (with_repairer i) w
  pub sweeper :
      let stepped : Directory × SweeperOf = swept_at_directory actor.Sweeper 0 w.sweeper w.directory in
      TokensAgree (with_sweeper stepped.1 (with_directory stepped.0 w))
  pub operator : (step : DirectoryStep) → TokensAgree (with_directory (at_directory false actor.Operator 0 step w.directory).0 w)

-- so in every world
abbrev pub WorldsStayAgreed : Type 0
WorldsStayAgreed = (script : Script) (w : WorldOf) → TokensAgree w → TokensStayAgreed script w

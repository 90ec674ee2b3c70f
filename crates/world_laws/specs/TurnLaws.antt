-- A client's or a repairer's turn in the world is its step in the core.
use Rattle.std.specs.Prelude.{◌≡◌, ℕ, Bool, false, [], ◌∷◌, None, Some}
use Rattle.std.specs.List.{slice_get}
use Rattle.store_map.specs.declared.script.Script.{Script}
use Rattle.store_map.specs.declared.actor.Actor.{Actor}
use Rattle.store_map.specs.declared.actor.Actor.TheVariants as actor
use Rattle.store_core.specs.Directory.{Directory}
use Rattle.store_core.specs.Server.{Server}
use Rattle.store_core.specs.Run.{Run, client_step, repairer_step}
use Rattle.store_core.specs.Work.{Work, client_work, repairer_work, has_step}
use Rattle.call_steps.specs.declared.need.Need.TheVariants as need
use Rattle.call_steps.specs.CallOf.{CallOf}
use Rattle.call_steps.specs.Steps.{need_of, stepped_at_directory, stepped_at_server}
use Rattle.call_steps.specs.Ready.{ready, shortage_of}
use Rattle.call_steps.specs.StandLaws.{HasPassOfItsKind}
use Rattle.world_laws.specs.World.{ActorOf, WorldOf, with_directory, with_server, with_client, with_repairer}
use Rattle.world_laws.specs.Known.{calling_of}
use Rattle.world_laws.specs.Leads.{LeadsWorld}
use Rattle.world_laws.specs.ActorAfter.{HasTurn, actor_after}

-- an actor's turn in the world, where `part` is its step in a run and `put` puts it back: with a coding before the step if one is due, at the directory or at a server that is there; or no step
pub record MakesTurns (script : Script) (part : Run → Run) (who : Actor) (work : Work) (a : ActorOf) (put : ActorOf → WorldOf → WorldOf) (w : WorldOf) : Type 0 where
  pub directory :
      (c : CallOf) (coding short due : Bool) → HasTurn script who work a c → need_of (ready coding c) ≡ need.Directory → HasPassOfItsKind w.directory c →
      let stepped : Directory × CallOf = stepped_at_directory short due (ready coding c) w.directory in
      LeadsWorld script part w (shortage_of coding short c ∷ []) (put (actor_after stepped.1 a) (with_directory stepped.0 w))
  pub server :
      (c : CallOf) (server : ℕ) (s : Server) (coding short due : Bool) → HasTurn script who work a c → need_of (ready coding c) ≡ need.Server server →
      slice_get w.servers server ≡ Some s →
      let stepped : Server × CallOf = stepped_at_server short due (ready coding c) s in
      LeadsWorld script part w (shortage_of coding short c ∷ []) (put (actor_after stepped.1 a) (with_server server stepped.0 w))
  pub none : has_step work (calling_of script a) ≡ false → LeadsWorld script part w [] w

-- client i, and one that isn't there
pub record ClientsMakeTurns (script : Script) (i : ℕ) (w : WorldOf) : Type 0 where
  pub turns :
      (work : Work) (a : ActorOf) → slice_get (client_work script) i ≡ Some work → slice_get w.clients i ≡ Some a →
      MakesTurns script (client_step script i) (actor.Client i) work a (with_client i) w
  pub absent : slice_get w.clients i ≡ None → LeadsWorld script (client_step script i) w [] w

-- repairer i, and one that isn't there
pub record RepairersMakeTurns (script : Script) (i : ℕ) (w : WorldOf) : Type 0 where
  pub turns :
      (work : Work) (a : ActorOf) → slice_get (repairer_work script) i ≡ Some work → slice_get w.repairers i ≡ Some a →
      MakesTurns script (repairer_step script i) (actor.Repairer i) work a (with_repairer i) w
  pub absent : slice_get w.repairers i ≡ None → LeadsWorld script (repairer_step script i) w [] w

-- The sweeper's turn and the operator's actions in the world are their steps in the core.
use Rattle.std.specs.Prelude.{◌≡◌, ℕ, false, [], ◌∷◌, Some}
use Rattle.std.specs.List.{slice_get}
use Rattle.store_map.specs.declared.script.Script.{Script}
use Rattle.store_map.specs.declared.actor.Actor.{Actor}
use Rattle.store_map.specs.declared.actor.Actor.TheVariants as actor
use Rattle.store_map.specs.declared.actor.Token.{Token}
use Rattle.store_map.specs.declared.actor.Token.TheVariants as token
use Rattle.store_core.specs.Act.{DirectoryStep, ServerStep}
use Rattle.store_core.specs.Directory.{Directory}
use Rattle.store_core.specs.AtDirectory.{at_directory}
use Rattle.store_core.specs.Server.{Server, at_server}
use Rattle.store_core.specs.Step.{Shortage}
use Rattle.store_core.specs.Run.{sweeper_step}
use Rattle.store_core.specs.Schedule.{step_core}
use Rattle.call_steps.specs.declared.need.Need.TheVariants as need
use Rattle.sweeper.specs.Sweeps.{SweeperOf, need_of, stepped_at_directory, stepped_at_server}
use Rattle.world_laws.specs.World.{WorldOf, with_directory, with_server, with_sweeper}
use Rattle.world_laws.specs.Leads.{LeadsWorld}

-- the sweeper's turn, at the directory or at a server that is there; it takes no memory, and uses up the shortage of its place
pub record SweeperMakesTurns (script : Script) (w : WorldOf) (shortage : Shortage) : Type 0 where
  pub directory :
      need_of w.sweeper ≡ need.Directory →
      let stepped : Directory × SweeperOf = stepped_at_directory actor.Sweeper 0 w.sweeper w.directory in
      LeadsWorld script (sweeper_step script) w (shortage ∷ []) (with_sweeper stepped.1 (with_directory stepped.0 w))
  pub server :
      (server : ℕ) (s : Server) → need_of w.sweeper ≡ need.Server server → slice_get w.servers server ≡ Some s →
      let stepped : Server × SweeperOf = stepped_at_server w.sweeper s in
      LeadsWorld script (sweeper_step script) w (shortage ∷ []) (with_sweeper stepped.1 (with_server server stepped.0 w))

-- a token of the operator for this server, by which the server makes this step
abbrev pub ActsAtServer : Script → (ℕ → Token) → ServerStep → WorldOf → Shortage → Type 0
ActsAtServer script action step w shortage =
    (server : ℕ) (s : Server) → slice_get w.servers server ≡ Some s →
    LeadsWorld script (step_core script (action server)) w (shortage ∷ []) (with_server server (at_server false step s).0 w)

-- a token by which this actor's pass is given up
abbrev pub Reaps : Script → Token → Actor → WorldOf → Shortage → Type 0
Reaps script action who w shortage =
    LeadsWorld script (step_core script action) w (shortage ∷ []) (with_directory (at_directory false actor.Operator 0 (DirectoryStep.Reap who) w.directory).0 w)

-- the operator's actions; each uses up the shortage of its place
pub record OperatorMakesActions (script : Script) (w : WorldOf) (shortage : Shortage) : Type 0 where
  pub wipe : ActsAtServer script token.Wipe ServerStep.Wipe w shortage
  pub down : ActsAtServer script token.Down ServerStep.Down w shortage
  pub up : ActsAtServer script token.Up ServerStep.Up w shortage
  pub reap_client : (i : ℕ) → Reaps script (token.ReapClient i) (actor.Client i) w shortage
  pub reap_repairer : (i : ℕ) → Reaps script (token.ReapRepairer i) (actor.Repairer i) w shortage

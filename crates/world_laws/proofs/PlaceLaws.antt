-- Steps of the sweeper and the operator.
use Rattle.std.proofs.Common.{◌≡◌, ℕ, false, List, ◌∷◌, Option, Some, refl, sym, ap, ◌∙◌, true≢false}
use Rattle.std.specs.List.{slice_get}
use Rattle.clay_grid.specs.Shape.{chunk_count}
use Rattle.store_map.specs.declared.script.Script.{Script}
use Rattle.store_map.specs.declared.actor.Actor.TheVariants as actor
use Rattle.store_core.specs.Lists.{change_at}
use Rattle.store_core.specs.Told.{Told}
use Rattle.store_core.specs.Act.{Act, DirectoryStep, ServerStep}
use Rattle.store_core.specs.ActPlace.{place_of}
use Rattle.store_core.specs.Core.{Core}
use Rattle.store_core.specs.Directory.{Directory}
use Rattle.store_core.specs.AtDirectory.{at_directory}
use Rattle.store_core.specs.Server.{Server, at_server}
use Rattle.store_core.specs.Step.{Places, Shortage, at_places, at_server_there}
use Rattle.store_core.specs.Sweep.{next_sweep, after_sweep}
use Rattle.store_core.specs.Run.{Run, places_in, operator_step, sweeper_step}
use Rattle.call_steps.specs.declared.need.Need.TheVariants as need
use Rattle.sweeper.specs.Sweeps.{act_of, need_at, at_directory_by, at_server_by, stepped_at_directory, stepped_at_server}
use Rattle.call_steps.proofs.Needs.{is_directory, is_server, server_in}
use Rattle.world_laws.specs.World.{WorldOf, with_directory, with_server, with_sweeper}
use Rattle.world_laws.specs.StandsFor.{StandsFor}
use Rattle.world_laws.specs.Leads.{IsAt}
use Rattle.world_laws.specs.PlaceLaws.{SweeperMakesTurns, OperatorMakesActions}

-- ---- what the sweeper needs tells its act
directory_by : (act : Act) → need_at (place_of act) ≡ need.Directory → (step : DirectoryStep) × (act ≡ Act.AtDirectory step)
directory_by (Act.AtDirectory step) e = (step, refl)
directory_by (Act.AtServer server step) e = absurd (true≢false (sym (ap is_directory e)))
directory_by (Act.Finish outcome) e = absurd (true≢false (sym (ap is_directory e)))

server_by : (act : Act) (server : ℕ) → need_at (place_of act) ≡ need.Server server → (step : ServerStep) × (act ≡ Act.AtServer server step)
server_by (Act.AtServer other step) server e = (step, ap (λ n. Act.AtServer n step) (ap server_in e))
server_by (Act.AtDirectory step) server e = absurd (true≢false (sym (ap is_server e)))
server_by (Act.Finish outcome) server e = absurd (true≢false (sym (ap is_server e)))

-- ---- the sweeper
module _ (script : Script) (w : WorldOf) (core : Core) (stands : StandsFor script w core) where
  -- the step at the places, and what the sweeper is after it
  by : Act → Places × Told
  by act = at_places false actor.Sweeper 0 act (places_in core)

  same_act : next_sweep (chunk_count script.geometry) core.sweeper ≡ act_of w.sweeper
  same_act = λ k. next_sweep (sym stands.width k) (stands.sweeper k)

  module _ (shortage : Shortage) (more : List Shortage) where
    abbrev start : Run
    start = record { core = core; shortages = shortage ∷ more }

    sweeps_directory : (step : DirectoryStep) → act_of w.sweeper ≡ Act.AtDirectory step
        → IsAt script (with_sweeper (stepped_at_directory actor.Sweeper 0 w.sweeper w.directory).1 (with_directory (stepped_at_directory actor.Sweeper 0 w.sweeper w.directory).0 w)) more (sweeper_step script start)
    unfolding by
    sweeps_directory step is_act =
        let n : ℕ = chunk_count script.geometry in
        let made : next_sweep n core.sweeper ≡ Act.AtDirectory step = same_act ∙ is_act in
        record {
          stands =
              record {
                directory =
                    ap (λ (act : Act). (by act).0.directory) made
                    ∙ ap (λ (d : Directory). (at_directory false actor.Sweeper 0 step d).0) stands.directory
                    ∙ ap (λ (act : Act). (at_directory_by act actor.Sweeper 0 w.sweeper w.directory).0) (sym is_act);
                servers = ap (λ (act : Act). (by act).0.servers) made ∙ stands.servers;
                clients = stands.clients;
                repairers = stands.repairers;
                sweeper =
                    ap (λ (act : Act). after_sweep n core.sweeper (by act).1) made
                    ∙ (λ k. after_sweep (sym stands.width k) (stands.sweeper k) (at_directory false actor.Sweeper 0 step (stands.directory k)).1)
                    ∙ ap (λ (act : Act). (at_directory_by act actor.Sweeper 0 w.sweeper w.directory).1.at) (sym is_act);
                width = ap (λ (act : Act). (at_directory_by act actor.Sweeper 0 w.sweeper w.directory).1.servers) is_act ∙ stands.width;
              };
          left = refl;
        }

    sweeps_server : (server : ℕ) (s : Server) (step : ServerStep) → act_of w.sweeper ≡ Act.AtServer server step → slice_get w.servers server ≡ Some s
        → IsAt script (with_sweeper (stepped_at_server w.sweeper s).1 (with_server server (stepped_at_server w.sweeper s).0 w)) more (sweeper_step script start)
    unfolding by
    sweeps_server server s step is_act there =
        let n : ℕ = chunk_count script.geometry in
        let made : next_sweep n core.sweeper ≡ Act.AtServer server step = same_act ∙ is_act in
        let is_there : slice_get core.servers server ≡ Some s = ap (λ (l : List Server). slice_get l server) stands.servers ∙ there in
        record {
          stands =
              record {
                directory =
                    ap (λ (act : Act). (by act).0.directory) made
                    ∙ ap (λ (found : Option Server). (at_server_there false server step (places_in core) found).0.directory) is_there ∙ stands.directory;
                servers =
                    ap (λ (act : Act). (by act).0.servers) made
                    ∙ ap (λ (found : Option Server). (at_server_there false server step (places_in core) found).0.servers) is_there
                    ∙ ap (λ (l : List Server). change_at server (λ _. (at_server false step s).0) l) stands.servers
                    ∙ ap (λ (act : Act). change_at server (λ _. (at_server_by act w.sweeper s).0) w.servers) (sym is_act);
                clients = stands.clients;
                repairers = stands.repairers;
                sweeper =
                    ap (λ (act : Act). after_sweep n core.sweeper (by act).1) made
                    ∙ ap (λ (found : Option Server). after_sweep n core.sweeper (at_server_there false server step (places_in core) found).1) is_there
                    ∙ (λ k. after_sweep (sym stands.width k) (stands.sweeper k) (at_server false step s).1)
                    ∙ ap (λ (act : Act). (at_server_by act w.sweeper s).1.at) (sym is_act);
                width = ap (λ (act : Act). (at_server_by act w.sweeper s).1.servers) is_act ∙ stands.width;
              };
          left = refl;
        }

    -- ---- the operator
    acts_at_server : (server : ℕ) (s : Server) (step : ServerStep) → slice_get w.servers server ≡ Some s
        → IsAt script (with_server server (at_server false step s).0 w) more (operator_step (Act.AtServer server step) start)
    acts_at_server server s step there =
        let is_there : slice_get core.servers server ≡ Some s = ap (λ (l : List Server). slice_get l server) stands.servers ∙ there in
        record {
          stands =
              record {
                directory = ap (λ (found : Option Server). (at_server_there false server step (places_in core) found).0.directory) is_there ∙ stands.directory;
                servers =
                    ap (λ (found : Option Server). (at_server_there false server step (places_in core) found).0.servers) is_there
                    ∙ ap (λ (l : List Server). change_at server (λ _. (at_server false step s).0) l) stands.servers;
                clients = stands.clients;
                repairers = stands.repairers;
                sweeper = stands.sweeper;
                width = stands.width;
              };
          left = refl;
        }

    acts_at_directory : (step : DirectoryStep) → IsAt script (with_directory (at_directory false actor.Operator 0 step w.directory).0 w) more (operator_step (Act.AtDirectory step) start)
    acts_at_directory step =
        record {
          stands =
              record {
                directory = ap (λ (d : Directory). (at_directory false actor.Operator 0 step d).0) stands.directory;
                servers = stands.servers;
                clients = stands.clients;
                repairers = stands.repairers;
                sweeper = stands.sweeper;
                width = stands.width;
              };
          left = refl;
        }

pub sweeper_makes_turns : (script : Script) (w : WorldOf) (shortage : Shortage) → SweeperMakesTurns script w shortage
sweeper_makes_turns script w shortage =
    record {
      directory = λ needs core more stands.
          let acts : (step : DirectoryStep) × (act_of w.sweeper ≡ Act.AtDirectory step) = directory_by (act_of w.sweeper) needs in
          sweeps_directory script w core stands shortage more acts.0 acts.1;
      server = λ server s needs there core more stands.
          let acts : (step : ServerStep) × (act_of w.sweeper ≡ Act.AtServer server step) = server_by (act_of w.sweeper) server needs in
          sweeps_server script w core stands shortage more server s acts.0 acts.1 there;
    }

pub operator_makes_actions : (script : Script) (w : WorldOf) (shortage : Shortage) → OperatorMakesActions script w shortage
operator_makes_actions script w shortage =
    record {
      wipe = λ server s there core more stands. acts_at_server script w core stands shortage more server s ServerStep.Wipe there;
      down = λ server s there core more stands. acts_at_server script w core stands shortage more server s ServerStep.Down there;
      up = λ server s there core more stands. acts_at_server script w core stands shortage more server s ServerStep.Up there;
      reap_client = λ i core more stands. acts_at_directory script w core stands shortage more (DirectoryStep.Reap (actor.Client i));
      reap_repairer = λ i core more stands. acts_at_directory script w core stands shortage more (DirectoryStep.Reap (actor.Repairer i));
    }

-- The turns of clients and repairers.
use Rattle.std.proofs.Common.{◌≡◌, ℕ, false, List, ◌∷◌, Option, None, Some, refl, sym, ap, subst}
use Rattle.std.specs.List.{slice_get}
use Rattle.store_map.specs.declared.script.Script.{Script}
use Rattle.store_map.specs.declared.actor.Actor.TheVariants as actor
use Rattle.store_core.specs.Core.{Core}
use Rattle.store_core.specs.Directory.{Directory}
use Rattle.store_core.specs.Server.{Server}
use Rattle.store_core.specs.Step.{Places, Shortage}
use Rattle.store_core.specs.Run.{Run, after_client, after_repairer, client_step, repairer_step}
use Rattle.store_core.specs.Work.{Work, Calling, client_work, repairer_work}
use Rattle.run_laws.specs.ShortageLaws.{may_turn}
use Rattle.run_laws.proofs.Leading.{steps_lead}
use Rattle.call_steps.specs.Ready.{shortage_of}
use Rattle.world_laws.specs.World.{ActorOf, WorldOf, with_client, with_repairer}
use Rattle.world_laws.specs.StandsFor.{StandsFor}
use Rattle.world_laws.specs.Leads.{IsAt}
use Rattle.world_laws.specs.TurnLaws.{ClientsMakeTurns, RepairersMakeTurns}
use Rattle.world_laws.proofs.Actors.{none_found, all_changed}
use Rattle.world_laws.proofs.Made.{Made, none_turns, made_at_directory, made_at_server}

-- a world with other places
abbrev pub with_places : Directory → List Server → WorldOf → WorldOf
with_places d servers w = record w { directory = d; servers = servers }

-- memory is ample
abbrev pub ample : Shortage
ample = record { coding = false; step = false }

-- an actor that isn't there has no step
absent_turns : (works : Option Work) (callings : Option Calling) → callings ≡ None → may_turn works callings ≡ false
absent_turns (Some work) callings none = ap (may_turn (Some work)) none
absent_turns None callings none = refl

module _ (script : Script) (i : ℕ) (w : WorldOf) (core : Core) (more : List Shortage) (stands : StandsFor script w core) (work : Work) (shortage : Shortage) (d : Directory) (servers : List Server) (a : ActorOf) where
  -- a client's step comes to the world with the client's new value in its place
  client_lands : slice_get (client_work script) i ≡ Some work
      → Made script (actor.Client i) core work (slice_get (client_work script) i) (slice_get core.clients i) shortage d servers a
      → IsAt script (with_client i a (with_places d servers w)) more (client_step script i (record { core = core; shortages = shortage ∷ more }))
  client_lands is_work made =
      subst (λ (after : Option (Places × Calling)). IsAt script (with_client i a (with_places d servers w)) more (after_client i (record { core = core; shortages = shortage ∷ more }) after)) (sym made.made)
      (record {
        stands =
            record {
              directory = made.directory;
              servers = made.servers_left;
              clients = all_changed script (client_work script) core.clients w.clients i work made.after.1 a stands.clients is_work made.stands;
              repairers = stands.repairers;
              sweeper = stands.sweeper;
              width = stands.width;
            };
        left = refl;
      })

  -- so does a repairer's
  repairer_lands : slice_get (repairer_work script) i ≡ Some work
      → Made script (actor.Repairer i) core work (slice_get (repairer_work script) i) (slice_get core.repairers i) shortage d servers a
      → IsAt script (with_repairer i a (with_places d servers w)) more (repairer_step script i (record { core = core; shortages = shortage ∷ more }))
  repairer_lands is_work made =
      subst (λ (after : Option (Places × Calling)). IsAt script (with_repairer i a (with_places d servers w)) more (after_repairer i (record { core = core; shortages = shortage ∷ more }) after)) (sym made.made)
      (record {
        stands =
            record {
              directory = made.directory;
              servers = made.servers_left;
              clients = stands.clients;
              repairers = all_changed script (repairer_work script) core.repairers w.repairers i work made.after.1 a stands.repairers is_work made.stands;
              sweeper = stands.sweeper;
              width = stands.width;
            };
        left = refl;
      })

-- a run that didn't move is where it was
pub stays_at : (script : Script) (w : WorldOf) (core : Core) (more : List Shortage) (run : Run) → StandsFor script w core → run ≡ record { core = core; shortages = more } → IsAt script w more run
stays_at script w core more run stands same = subst (λ (r : Run). IsAt script w more r) (sym same) (record { stands = stands; left = refl })

pub clients_make_turns : (script : Script) (i : ℕ) (w : WorldOf) → ClientsMakeTurns script i w
clients_make_turns script i w =
    record {
      turns = λ work a is_work is_a. record {
        directory = λ c coding short due turn needs its core more stands.
            client_lands script i w core more stands work (shortage_of coding short c) _ w.servers _ is_work
            (made_at_directory script (actor.Client i) core w.directory w.servers stands.directory stands.servers (client_work script) core.clients w.clients stands.clients i work a is_work is_a c coding short due turn needs its);
        server = λ c server s coding short due turn needs there core more stands.
            client_lands script i w core more stands work (shortage_of coding short c) w.directory _ _ is_work
            (made_at_server script (actor.Client i) core w.directory w.servers stands.directory stands.servers (client_work script) core.clients w.clients stands.clients i work a is_work is_a c coding short due turn server s needs there);
        none = λ none core more stands.
            stays_at script w core more (client_step script i (record { core = core; shortages = more })) stands
            (((steps_lead script core ample).client i).none
            (none_turns script (actor.Client i) core w.directory w.servers stands.directory stands.servers (client_work script) core.clients w.clients stands.clients i work a is_work is_a none) more);
      };
      absent = λ none core more stands.
          stays_at script w core more (client_step script i (record { core = core; shortages = more })) stands
          (((steps_lead script core ample).client i).none
          (absent_turns (slice_get (client_work script) i) (slice_get core.clients i) (none_found script (client_work script) core.clients w.clients i stands.clients none)) more);
    }

pub repairers_make_turns : (script : Script) (i : ℕ) (w : WorldOf) → RepairersMakeTurns script i w
repairers_make_turns script i w =
    record {
      turns = λ work a is_work is_a. record {
        directory = λ c coding short due turn needs its core more stands.
            repairer_lands script i w core more stands work (shortage_of coding short c) _ w.servers _ is_work
            (made_at_directory script (actor.Repairer i) core w.directory w.servers stands.directory stands.servers (repairer_work script) core.repairers w.repairers stands.repairers i work a is_work is_a c coding short due turn needs its);
        server = λ c server s coding short due turn needs there core more stands.
            repairer_lands script i w core more stands work (shortage_of coding short c) w.directory _ _ is_work
            (made_at_server script (actor.Repairer i) core w.directory w.servers stands.directory stands.servers (repairer_work script) core.repairers w.repairers stands.repairers i work a is_work is_a c coding short due turn server s needs there);
        none = λ none core more stands.
            stays_at script w core more (repairer_step script i (record { core = core; shortages = more })) stands
            (((steps_lead script core ample).repairer i).none
            (none_turns script (actor.Repairer i) core w.directory w.servers stands.directory stands.servers (repairer_work script) core.repairers w.repairers stands.repairers i work a is_work is_a none) more);
      };
      absent = λ none core more stands.
          stays_at script w core more (repairer_step script i (record { core = core; shortages = more })) stands
          (((steps_lead script core ample).repairer i).none
          (absent_turns (slice_get (repairer_work script) i) (slice_get core.repairers i) (none_found script (repairer_work script) core.repairers w.repairers i stands.repairers none)) more);
    }

-- The core in which a threaded run ends, and the values that stand for it.
use Rattle.std.specs.Prelude.{List, length, map}
use Rattle.std.specs.List.{range_with_len}
use Rattle.clay_grid.specs.Shape.{chunk_count}
use Rattle.store_map.specs.declared.actor.Actor.TheVariants as actor
use Rattle.store_map.specs.declared.script.Script.{Script}
use Rattle.store_core.specs.Core.{Core}
use Rattle.store_core.specs.Server.{Server}
use Rattle.store_core.specs.Sweep.{Sweeper}
use Rattle.thread_laws.specs.AtPlaces.{after_all}
use Rattle.thread_laws.specs.ByActors.{sweeper_next}
use Rattle.thread_laws.specs.CallTakes.{client_after, repairer_after}
use Rattle.thread_laws.specs.Ended.{RanApart}
use Rattle.stripe_stamps.specs.Sealed.{Sealed}
use Rattle.world_laws.specs.World.{WorldOf}
use Rattle.world_laws.specs.StandsFor.{StandsFor}
use Rattle.thread_laws.specs.Logs.{Logs, run_lists}
use Rattle.thread_laws.specs.PlaceEnded.{PlacesStand, CallerOf, AllHaveEnded}

-- the core in which the steps of these histories end
abbrev pub end_of : Script → Sealed → List Server → Logs → Core
end_of script d servers logs =
    let h = run_lists (chunk_count script.geometry) logs in
    record {
      directory = d.core;
      servers = servers;
      clients = map (client_after script h) (range_with_len 0 (length script.clients));
      repairers = map (repairer_after script h) (range_with_len 0 (length script.repairers));
      sweeper = after_all (sweeper_next script) (h.of actor.Sweeper) Sweeper.Idle;
    }

-- the values as a world
abbrev pub world_of : Script → Sealed → List Server → List CallerOf → List CallerOf → Sweeper → WorldOf
world_of script d servers clients repairers sweeper =
    record {
      directory = d.core;
      servers = servers;
      clients = map (λ (caller : CallerOf). caller.actor) clients;
      repairers = map (λ (caller : CallerOf). caller.actor) repairers;
      sweeper = record { servers = chunk_count script.geometry; at = sweeper };
    }

-- the last histories are those of steps made apart, which end in a core for which the values stand
abbrev pub ActorsEndRuns : Type 0
ActorsEndRuns =
    (script : Script) (d : Sealed) (servers : List Server) (logs swept operated : Logs) (clients repairers : List CallerOf) (sweeper : Sweeper) →
    PlacesStand script d servers logs → AllHaveEnded script logs swept operated clients repairers sweeper →
    RanApart script (run_lists (chunk_count script.geometry) logs) (end_of script d servers logs)
    × StandsFor script (world_of script d servers clients repairers sweeper) (end_of script d servers logs)

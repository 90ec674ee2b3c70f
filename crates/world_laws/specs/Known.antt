-- What a world tells of the core that it stands for: all but what the calls in work were told.
use Rattle.std.specs.Prelude.{ℕ, List, [], map, replicate}
use Rattle.clay_grid.specs.Shape.{chunk_count}
use Rattle.store_map.specs.declared.script.Script.{Script}
use Rattle.store_core.specs.Core.{Core}
use Rattle.store_core.specs.Work.{Ended, Calling}
use Rattle.world_laws.specs.World.{DoingOf, ActorOf, WorldOf}

-- of an actor, by what it does; there are so many servers
abbrev pub calling_by : ℕ → List Ended → DoingOf → Calling
calling_by servers ended (DoingOf.Between token) = record { ended = ended; told = []; takes = replicate servers 0; steps = 0 }
calling_by servers ended (DoingOf.InCall call steps) = record { ended = ended; told = []; takes = call.takes; steps = steps }

-- of an actor of a script
abbrev pub calling_of : Script → ActorOf → Calling
calling_of script a = calling_by (chunk_count script.geometry) a.ended a.doing

-- of the whole
abbrev pub core_of : Script → WorldOf → Core
core_of script w =
    record {
      directory = w.directory;
      servers = w.servers;
      clients = map (calling_of script) w.clients;
      repairers = map (calling_of script) w.repairers;
      sweeper = w.sweeper.at;
    }

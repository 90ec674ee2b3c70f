-- A world of a script with all that is stored in it, as callers see it.
use Rattle.std.specs.Prelude.{List, map}
use Rattle.store_map.specs.declared.script.Script.{Script}
use Rattle.version_seal.specs.Entry.{BookOf}
use Rattle.chunk_server.specs.State.{ServerState}
use Rattle.chunk_server.specs.Core.{core_of}
use Rattle.stripe_stamps.specs.Sealed.{Sealed}
use Rattle.sweeper.specs.Sweeps.{SweeperOf}
use Rattle.store_core.specs.Run.{Run}
use Rattle.world_laws.specs.World.{WorldOf}
use Rattle.world_laws.specs.Goes.{Leads}
use Rattle.actors.specs.Callers.{CallerOf}

-- its script and the book of it, the directory with its stamps, the servers with their chunks, the actors and the sweeper
pub record StoredWorld : Type 0 where
  pub script : Script
  pub book : BookOf
  pub directory : Sealed
  pub servers : List ServerState
  pub clients : List CallerOf
  pub repairers : List CallerOf
  pub sweeper : SweeperOf

-- the world, without what is stored beside it
abbrev pub world_of : StoredWorld → WorldOf
world_of s =
    record {
      directory = s.directory.core;
      servers = map core_of s.servers;
      clients = map (λ client. client.actor) s.clients;
      repairers = map (λ repairer. repairer.actor) s.repairers;
      sweeper = s.sweeper;
    }

-- a part of a run of its script leads from the one to the other
abbrev pub LeadsBy : (Run → Run) → StoredWorld → StoredWorld → Type 0
LeadsBy part before after = Leads before.script part (world_of before) (world_of after)

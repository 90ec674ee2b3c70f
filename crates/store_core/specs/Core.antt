-- The whole store without any object's bytes: the directory, the servers, the actors and what their calls came to.
use Rattle.std.specs.Prelude.{ℕ, Bool, ◌||◌, List, length, replicate, is_some}
use Rattle.clay_grid.specs.Shape.{chunk_count}
use Rattle.store_map.specs.Limits.{size_of}
use Rattle.store_map.specs.declared.script.Script.{Script}
use Rattle.store_core.specs.Directory.{Directory, new_directory}
use Rattle.store_core.specs.Lookups.{first_garbage}
use Rattle.store_core.specs.Server.{Server, new_server}
use Rattle.store_core.specs.Sweep.{Sweeper, is_busy}
use Rattle.store_core.specs.Work.{Calling, new_calling}

-- everything that a run changes
pub record Core : Type 0 where
  pub directory : Directory
  pub servers : List Server
  pub clients : List Calling
  pub repairers : List Calling
  pub sweeper : Sweeper

-- the store before the first step
abbrev pub first_core : Script → Core
first_core script =
    let n : ℕ = chunk_count script.geometry in
    record {
      directory = new_directory script.geometry (size_of script);
      servers = replicate n new_server;
      clients = replicate (length script.clients) (new_calling n);
      repairers = replicate (length script.repairers) (new_calling n);
      sweeper = Sweeper.Idle;
    }

-- in a drain the sweeper has a step where it is busy or there is garbage
abbrev pub sweeper_has_step : Core → Bool
sweeper_has_step core = is_busy core.sweeper || is_some (first_garbage core.directory)

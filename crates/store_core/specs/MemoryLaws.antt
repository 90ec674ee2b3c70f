-- Where want of memory is heard: it leaves everything as it was at a step that takes memory, and changes nothing at any other.
use Rattle.std.specs.Prelude.{◌≡◌, ℕ, true, false}
use Rattle.store_map.specs.declared.actor.Actor.{Actor}
use Rattle.store_core.specs.Told.{Told}
use Rattle.store_core.specs.Act.{DirectoryStep, ServerStep, takes_memory, server_takes_memory}
use Rattle.store_core.specs.Directory.{Directory}
use Rattle.store_core.specs.AtDirectory.{at_directory}
use Rattle.store_core.specs.Server.{Server, at_server}

-- a step at the directory
pub record IsHeardAtDirectory (who : Actor) (number : ℕ) (step : DirectoryStep) (d : Directory) : Type 0 where
  pub short : takes_memory step ≡ true → at_directory true who number step d ≡ (d, Told.Short)
  pub ignored : takes_memory step ≡ false → at_directory true who number step d ≡ at_directory false who number step d

-- a step at a server
pub record IsHeardAtServer (step : ServerStep) (s : Server) : Type 0 where
  pub short : server_takes_memory step ≡ true → at_server true step s ≡ (s, Told.Short)
  pub ignored : server_takes_memory step ≡ false → at_server true step s ≡ at_server false step s

-- each step at either place
pub record IsHeardWhereTaken : Type 0 where
  pub directory : (who : Actor) (number : ℕ) (step : DirectoryStep) (d : Directory) → IsHeardAtDirectory who number step d
  pub server : (step : ServerStep) (s : Server) → IsHeardAtServer step s

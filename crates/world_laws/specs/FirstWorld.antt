-- The world before the first step.
use Rattle.std.specs.Prelude.{◌≡◌, [], length, replicate, All}
use Rattle.clay_grid.specs.Shape.{chunk_count}
use Rattle.store_map.specs.Limits.{size_of}
use Rattle.store_map.specs.declared.script.Script.{Script}
use Rattle.store_core.specs.Agreement.{ActorToken}
use Rattle.store_core.specs.Core.{first_core}
use Rattle.store_core.specs.Directory.{new_directory}
use Rattle.store_core.specs.Server.{new_server}
use Rattle.sweeper.specs.Sweeps.{new_sweeper}
use Rattle.world_laws.specs.World.{DoingOf, ActorOf, WorldOf}
use Rattle.world_laws.specs.StandsFor.{StandsFor}

-- an actor before its first call, with its ticket
abbrev pub new_actor : ActorToken → ActorOf
new_actor token = record { ended = []; doing = DoingOf.Between token }

-- it is before its first call, with some ticket
abbrev pub IsNew : ActorOf → Type 0
IsNew a = (token : ActorToken) × (a ≡ new_actor token)

-- an empty directory, empty servers, as many actors as the script has, and a sweeper that has taken no version
pub record IsFirstWorld (script : Script) (w : WorldOf) : Type 0 where
  pub directory : w.directory ≡ new_directory script.geometry (size_of script)
  pub servers : w.servers ≡ replicate (chunk_count script.geometry) new_server
  pub client_count : length w.clients ≡ length script.clients
  pub clients : All IsNew w.clients
  pub repairer_count : length w.repairers ≡ length script.repairers
  pub repairers : All IsNew w.repairers
  pub sweeper : w.sweeper ≡ new_sweeper (chunk_count script.geometry)

-- it stands for the first core
abbrev pub FirstWorldsStand : Type 0
FirstWorldsStand = (script : Script) (w : WorldOf) → IsFirstWorld script w → StandsFor script w (first_core script)

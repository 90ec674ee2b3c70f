-- What a world shows is what its core shows.
use Rattle.std.specs.Prelude.{◌≡◌, List}
use Rattle.store_map.specs.declared.actor.Token.{Token}
use Rattle.store_map.specs.declared.script.Script.{Script}
use Rattle.store_core.specs.Core.{Core}
use Rattle.store_core.specs.Schedule.{run_core}
use Rattle.store_core.specs.Shown.{shown}
use Rattle.store_core.specs.Step.{Shortage}
use Rattle.world_laws.specs.World.{WorldOf}
use Rattle.world_laws.specs.Known.{core_of}
use Rattle.world_laws.specs.StandsFor.{StandsFor}
use Rattle.world_laws.specs.RunLaws.{Reaches}

-- the transcript doesn't need what calls in work were told; so a world that tokens reach shows the run of these tokens
pub record WorldsShow (script : Script) (w : WorldOf) : Type 0 where
  pub core : (core : Core) → StandsFor script w core → shown script (core_of script w) ≡ shown script core
  pub run : (tokens : List Token) (shortages : List Shortage) → Reaches script tokens shortages w → shown script (core_of script w) ≡ shown script (run_core script shortages tokens)

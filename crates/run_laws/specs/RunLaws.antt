-- The directory of every run is sound.
use Rattle.std.specs.Prelude.{List}
use Rattle.clay_grid.specs.Limits.{IsGeometry}
use Rattle.store_map.specs.Naming.{IsValid}
use Rattle.store_map.specs.declared.script.Script.{Script}
use Rattle.store_map.specs.declared.actor.Token.{Token}
use Rattle.store_core.specs.Schedule.{run_core}
use Rattle.store_core.specs.Sound.{IsSound}
use Rattle.store_core.specs.Step.{Shortage}

-- whatever tokens a run has, the directory is sound after them
abbrev pub StaysSound : Script → List Shortage → Type 0
StaysSound script shortages = (tokens : List Token) → IsSound (run_core script shortages tokens).directory

-- so it is in every run of a valid script, whatever was wanting of memory: each step at the directory is made where it may be
abbrev pub RunsStaySound : Type 0
RunsStaySound = (script : Script) (shortages : List Shortage) → IsGeometry script.geometry → IsValid script → StaysSound script shortages

-- Each version that stands as drawn belongs to a pass that has not ended.
use Rattle.std.specs.Prelude.{ℕ, ◌<◌, Bool, Contains, IsTrue}
use Rattle.clay_grid.specs.Shape.{Shape, stripe_length}
use Rattle.store_map.specs.declared.actor.Actor.{Actor}
use Rattle.store_core.specs.Act.{DirectoryStep}
use Rattle.store_core.specs.AtDirectory.{at_directory}
use Rattle.store_core.specs.Conditions.{MayStep}
use Rattle.store_core.specs.Directory.{Standing, Pass, Directory, new_directory}
use Rattle.store_core.specs.Lookups.{is_live}
use Rattle.store_core.specs.Sound.{IsSound}
use Rattle.store_core.specs.SoundPasses.{Stands}

-- a pass that has not ended and wasn't reaped drew the version
abbrev pub IsBeingWritten : Directory → ℕ → Type 0
IsBeingWritten d version = (pass : Pass) × Contains d.passes pass × IsTrue (is_live pass.reaped) × Contains pass.drawn version

-- this holds of every version that stands as drawn
abbrev pub DrawnAreBeingWritten : Directory → Type 0
DrawnAreBeingWritten d = (version : ℕ) → Stands d Standing.Drawn version → IsBeingWritten d version

-- so it is in a directory without objects, and each step that may be made at a sound directory keeps it so
pub record StepsKeepDrawn : Type 0 where
  pub first : (g : Shape) (max : ℕ) → DrawnAreBeingWritten (new_directory g max)
  pub step :
      (short : Bool) (who : Actor) (number : ℕ) (step : DirectoryStep) (d : Directory) → 0 < stripe_length d.shape → IsSound d →
      DrawnAreBeingWritten d → MayStep d who number step → DrawnAreBeingWritten (at_directory short who number step d).0

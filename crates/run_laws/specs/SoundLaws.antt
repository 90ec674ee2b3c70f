-- A directory stays sound.
use Rattle.std.specs.Prelude.{ℕ, ◌<◌, Bool}
use Rattle.clay_grid.specs.Shape.{Shape, stripe_length}
use Rattle.store_map.specs.declared.actor.Actor.{Actor}
use Rattle.store_core.specs.Act.{DirectoryStep}
use Rattle.store_core.specs.Directory.{Directory, new_directory}
use Rattle.store_core.specs.AtDirectory.{at_directory}
use Rattle.store_core.specs.Conditions.{MayStep}
use Rattle.store_core.specs.Sound.{IsSound}

-- a directory without objects is sound, and each step that may be made keeps it so
pub record StepsKeepSound : Type 0 where
  pub first : (g : Shape) (max : ℕ) → IsSound (new_directory g max)
  pub step :
      (short : Bool) (who : Actor) (number : ℕ) (step : DirectoryStep) (d : Directory) → 0 < stripe_length d.shape →
      IsSound d → MayStep d who number step → IsSound (at_directory short who number step d).0

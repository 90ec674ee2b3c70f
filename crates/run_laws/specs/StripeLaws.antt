-- Each content is a whole stripe.
use Rattle.std.specs.Prelude.{◌≡◌, ℕ, ◌<◌, Bool, length, All}
use Rattle.clay_grid.specs.Shape.{Shape, stripe_length}
use Rattle.store_map.specs.declared.actor.Actor.{Actor}
use Rattle.store_core.specs.Act.{DirectoryStep}
use Rattle.store_core.specs.AtDirectory.{at_directory}
use Rattle.store_core.specs.Conditions.{MayStep}
use Rattle.store_core.specs.Directory.{Directory, new_directory}
use Rattle.store_core.specs.Sound.{IsSound}
use Rattle.store_core.specs.Content.{contents_by}
use Rattle.store_core.specs.Calls.{Calls}
use Rattle.run_laws.specs.Contents.{HasBytes}

-- the contents of all versions are as long as a stripe
abbrev pub AreStripes : Calls → Directory → Type 0
AreStripes calls d = All (λ content. length content ≡ stripe_length d.shape) (contents_by d.shape calls d.versions)

-- each step that may be made keeps them so
pub record StepsKeepStripes (calls : Calls) : Type 0 where
  pub first : (g : Shape) (max : ℕ) → AreStripes calls (new_directory g max)
  pub step :
      (short : Bool) (who : Actor) (number : ℕ) (step : DirectoryStep) (d : Directory) → 0 < stripe_length d.shape →
      IsSound d → HasBytes calls d → AreStripes calls d → MayStep d who number step → AreStripes calls (at_directory short who number step d).0

-- Contents stay, and objects keep the bytes of the plain map.
use Rattle.std.specs.Prelude.{◌≡◌, ℕ, ◌<◌, Bool, List, ◌++◌}
use Rattle.clay_grid.specs.Shape.{Shape, stripe_length}
use Rattle.store_map.specs.declared.actor.Actor.{Actor}
use Rattle.store_core.specs.Act.{DirectoryStep}
use Rattle.store_core.specs.Directory.{Directory, new_directory}
use Rattle.store_core.specs.AtDirectory.{at_directory}
use Rattle.store_core.specs.Conditions.{MayStep}
use Rattle.store_core.specs.Sound.{IsSound}
use Rattle.store_core.specs.Content.{contents_by}
use Rattle.store_core.specs.Calls.{Calls, IsOfCall}
use Rattle.run_laws.specs.Contents.{HasBytes}

-- after any step the contents of all earlier versions are what they were
abbrev pub ContentsStay : Type 0
ContentsStay =
    (calls : Calls) (short : Bool) (who : Actor) (number : ℕ) (step : DirectoryStep) (d : Directory) →
    (more : List (List ℕ)) × (contents_by d.shape calls (at_directory short who number step d).0.versions ≡ contents_by d.shape calls d.versions ++ more)

-- a directory without objects has the bytes of the empty map, and each step that may be made keeps them those of the map
pub record StepsKeepBytes (calls : Calls) : Type 0 where
  pub first : (g : Shape) (max : ℕ) → HasBytes calls (new_directory g max)
  pub step :
      (short : Bool) (who : Actor) (number : ℕ) (step : DirectoryStep) (d : Directory) → 0 < stripe_length d.shape →
      IsSound d → HasBytes calls d → MayStep d who number step → IsOfCall calls who number step → HasBytes calls (at_directory short who number step d).0

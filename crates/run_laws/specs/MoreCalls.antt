-- Calls that come later change nothing of what is kept.
use Rattle.std.specs.Prelude.{◌≡◌, ℕ, Bool, Some, All}
use Rattle.clay_grid.specs.Shape.{Shape}
use Rattle.store_map.specs.declared.actor.Actor.{Actor}
use Rattle.store_map.specs.declared.call.Call.{Call}
use Rattle.store_core.specs.Act.{DirectoryStep}
use Rattle.store_core.specs.AtDirectory.{at_directory}
use Rattle.store_core.specs.Conditions.{MayStep}
use Rattle.store_core.specs.Directory.{Directory, new_directory}
use Rattle.store_core.specs.Sound.{IsSound}
use Rattle.store_core.specs.Content.{contents_by}
use Rattle.store_core.specs.Calls.{Calls}
use Rattle.run_laws.specs.MapAfter.{map_by}
use Rattle.run_laws.specs.Contents.{HasBytes}

-- each version was drawn by one of the calls
abbrev pub AreDrawnBy : Calls → Directory → Type 0
AreDrawnBy calls d = All (λ version. (call : Call) × (calls version.actor version.number ≡ Some call)) d.versions

-- each step that may be made keeps them so
pub record StepsKeepDrawn (calls : Calls) : Type 0 where
  pub first : (g : Shape) (max : ℕ) → AreDrawnBy calls (new_directory g max)
  pub step :
      (short : Bool) (who : Actor) (number : ℕ) (step : DirectoryStep) (d : Directory) →
      HasBytes calls d → AreDrawnBy calls d → MayStep d who number step → AreDrawnBy calls (at_directory short who number step d).0

-- the calls are among these
abbrev pub AreAmong : Calls → Calls → Type 0
AreAmong calls more = (who : Actor) (number : ℕ) (call : Call) → calls who number ≡ Some call → more who number ≡ Some call

-- by more calls the versions have the contents that they have, and the map is what it is
pub record StaysByMore (calls more : Calls) (d : Directory) : Type 0 where
  pub contents : contents_by d.shape more d.versions ≡ contents_by d.shape calls d.versions
  pub map : map_by more d.max d.points ≡ map_by calls d.max d.points
  pub bytes : HasBytes more d
  pub drawn : AreDrawnBy more d

-- so it is at every sound directory that has its bytes
abbrev pub MoreCallsChangeNothing : Type 0
MoreCallsChangeNothing = (calls more : Calls) (d : Directory) → IsSound d → HasBytes calls d → AreDrawnBy calls d → AreAmong calls more → StaysByMore calls more d

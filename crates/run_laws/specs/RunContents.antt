-- In every run the objects stand for the bytes of the plain map.
use Rattle.std.specs.Prelude.{◌≡◌, ℕ, List, map}
use Rattle.clay_grid.specs.Limits.{IsGeometry}
use Rattle.store_map.specs.Limits.{size_of}
use Rattle.store_map.specs.Naming.{IsValid}
use Rattle.store_map.specs.declared.actor.Token.{Token}
use Rattle.store_map.specs.declared.script.Script.{Script}
use Rattle.store_core.specs.Content.{content_of}
use Rattle.store_core.specs.Directory.{Directory}
use Rattle.store_core.specs.History.{call_of}
use Rattle.store_core.specs.Schedule.{run_core}
use Rattle.store_core.specs.Step.{Shortage}
use Rattle.run_laws.specs.MapAfter.{map_by}
use Rattle.run_laws.specs.Contents.{stripes_in, HasBytes}
use Rattle.run_laws.specs.StripeLaws.{AreStripes}
use Rattle.run_laws.specs.MoreCalls.{AreDrawnBy}
use Rattle.run_laws.specs.PinLaws.{AreServed}

-- by name, what the current versions stand for
abbrev pub contents_in : Script → Directory → List (List ℕ × List (List ℕ))
contents_in script d = map (λ object. (object.name, map (content_of script d.versions) object.versions)) d.objects

-- the contents of each object's current versions are the stripes of the bytes that the map has after the calls at the points
abbrev pub StandsForTheMap : Script → Directory → Type 0
StandsForTheMap script d = contents_in script d ≡ stripes_in script.geometry (map_by (call_of script) (size_of script) d.points)

-- so it is after any tokens, whatever was wanting of memory
pub record RunsStandForTheMap (script : Script) (shortages : List Shortage) (tokens : List Token) : Type 0 where
  pub objects : StandsForTheMap script (run_core script shortages tokens).directory
  pub bytes : HasBytes (call_of script) (run_core script shortages tokens).directory
  pub stripes : AreStripes (call_of script) (run_core script shortages tokens).directory
  pub drawn : AreDrawnBy (call_of script) (run_core script shortages tokens).directory
  pub served : AreServed (call_of script) (run_core script shortages tokens).directory

-- in every run of a valid script
abbrev pub AllRunsStandForTheMap : Type 0
AllRunsStandForTheMap = (script : Script) (shortages : List Shortage) (tokens : List Token) → IsGeometry script.geometry → IsValid script → RunsStandForTheMap script shortages tokens

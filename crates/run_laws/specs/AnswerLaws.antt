-- Each step at the directory or at a server has an answer of its own kind, within the counts of its call.
use Rattle.std.specs.Prelude.{◌≡◌, ℕ, ◌<◌, ◌≤◌, Bool, true, false, Some, All, IsTrue}
use Rattle.clay_grid.specs.Shape.{stripe_length}
use Rattle.store_map.specs.declared.actor.Actor.{Actor}
use Rattle.store_core.specs.Note.{Note}
use Rattle.store_core.specs.Act.{DirectoryStep, ServerStep}
use Rattle.run_laws.specs.Answers.{DirectoryAnswers, ServerAnswers}
use Rattle.store_core.specs.Bounds.{touched_count}
use Rattle.run_laws.specs.CallLeft.{pin_bound}
use Rattle.store_core.specs.Directory.{Pass, Directory}
use Rattle.store_core.specs.Lookups.{pass_of}
use Rattle.store_core.specs.AtDirectory.{at_directory}
use Rattle.store_core.specs.Server.{Server, at_server}

-- a step of a call on its pass
abbrev pub is_on_pass : DirectoryStep → Bool
is_on_pass DirectoryStep.Draw = true
is_on_pass (DirectoryStep.Commit placed) = true
is_on_pass DirectoryStep.End = true
is_on_pass DirectoryStep.Confirm = true
is_on_pass (DirectoryStep.Repaired server epoch) = true
is_on_pass _ = false

-- a step of a call at a server, and not of the sweeper or the operator
abbrev pub is_of_call : ServerStep → Bool
is_of_call (ServerStep.Discard version) = false
is_of_call ServerStep.Wipe = false
is_of_call ServerStep.Down = false
is_of_call ServerStep.Up = false
is_of_call _ = true

-- no object is longer than the directory allows
abbrev pub AreWithinMax : Directory → Type 0
AreWithinMax d = All (λ object. object.length ≤ d.max) d.objects

-- a look pins no more stripes than the bound of its call, a draw draws no more than the call touches
pub record PlacesAnswer : Type 0 where
  pub look :
      (short : Bool) (who : Actor) (number : ℕ) (note : Note) (d : Directory) → 0 < stripe_length d.shape → AreWithinMax d →
      DirectoryAnswers (pin_bound d.shape d.max note) (touched_count d.shape note) (DirectoryStep.Look note) (at_directory short who number (DirectoryStep.Look note) d).1
  pub look_repair :
      (short : Bool) (who : Actor) (number : ℕ) (note : Note) (d : Directory) →
      DirectoryAnswers 1 0 (DirectoryStep.LookRepair note) (at_directory short who number (DirectoryStep.LookRepair note) d).1
  pub on_pass :
      (short : Bool) (who : Actor) (number : ℕ) (step : DirectoryStep) (d : Directory) (pass : Pass) (pins : ℕ) → pass_of who d ≡ Some pass → IsTrue (is_on_pass step) →
      DirectoryAnswers pins (touched_count d.shape pass.note) step (at_directory short who number step d).1
  pub server : (short : Bool) (step : ServerStep) (s : Server) → IsTrue (is_of_call step) → ServerAnswers step (at_server short step s).1

-- Runs in which memory is wanting in no step.
use Rattle.std.specs.Prelude.{◌≡◌, false, List, [], All}
use Rattle.store_map.specs.declared.actor.Token.{Token}
use Rattle.store_map.specs.declared.script.Script.{Script}
use Rattle.store_core.specs.Schedule.{run_core}
use Rattle.store_core.specs.Step.{Shortage}

-- memory is wanting neither in the coding before a step nor in the step
abbrev pub IsAmple : Shortage → Type 0
IsAmple shortage = (shortage.coding ≡ false) × (shortage.step ≡ false)

-- of all runs of a script by these tokens in which it is so there is one core: the script and the tokens alone tell it
abbrev pub AmpleRunsAreOne : Type 0
AmpleRunsAreOne = (script : Script) (shortages : List Shortage) → All IsAmple shortages → (tokens : List Token) → run_core script shortages tokens ≡ run_core script [] tokens

-- What a run shows is a history.
use Rattle.std.specs.Prelude.{◌≡◌, List}
use Rattle.clay_grid.specs.Limits.{IsGeometry}
use Rattle.store_map.specs.Naming.{IsValid}
use Rattle.store_map.specs.declared.script.Script.{Script}
use Rattle.store_core.specs.Shown.{shown_of}
use Rattle.store_core.specs.Step.{Shortage}
use Rattle.hist_rules.specs.declared.verdict.Verdict.TheVariants.{Legal}
use Rattle.hist_rules.specs.IsHistory.{IsHistory}
use Rattle.hist_rules.specs.Verdict.{verdict_of}

-- of every valid script, in whatever order its schedule gives steps, empties servers, makes them away and gives callers up, and whatever was wanting of memory
abbrev pub RunsShowHistories : Type 0
RunsShowHistories = (script : Script) (shortages : List Shortage) → IsGeometry script.geometry → IsValid script → IsHistory script (shown_of script shortages)

-- so no rule of the verdict finds a fault in it
abbrev pub RunsAreLegal : Type 0
RunsAreLegal = (script : Script) (shortages : List Shortage) → IsGeometry script.geometry → IsValid script → verdict_of script (shown_of script shortages) ≡ Legal

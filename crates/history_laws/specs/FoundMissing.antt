-- What a run shows of missing chunks: a call is unavailable only where too many servers were away or had lost their chunk.
use Rattle.clay_grid.specs.Limits.{IsGeometry}
use Rattle.std.specs.Prelude.{List}
use Rattle.store_map.specs.Naming.{IsValid}
use Rattle.store_map.specs.declared.script.Script.{Script}
use Rattle.store_core.specs.Shown.{shown_of}
use Rattle.store_core.specs.Step.{Shortage}
use Rattle.hist_rules.specs.FoundMissing.{FoundMissing}

-- no data is called unavailable while enough servers have their chunks, or for losses that the operator never caused; only in form 2 has an operator lines that make servers away, so it is said of the script's own schedule
abbrev pub RunsFindMissing : Type 0
RunsFindMissing = (script : Script) (shortages : List Shortage) → IsGeometry script.geometry → IsValid script → FoundMissing script (shown_of script shortages)

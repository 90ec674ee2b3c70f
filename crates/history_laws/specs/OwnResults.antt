-- What a run shows of rebuilds that lacked chunks: they name their own stripe and their own server.
use Rattle.std.specs.Prelude.{◌≡◌, List, All, IfSome, ⊤}
use Rattle.clay_grid.specs.Limits.{IsGeometry}
use Rattle.store_map.specs.Naming.{IsValid}
use Rattle.store_map.specs.declared.call.Rebuild.{Rebuild}
use Rattle.store_map.specs.declared.script.Script.{Script}
use Rattle.store_map.specs.declared.cause.RepairResult.{RepairResult}
use Rattle.store_map.specs.declared.cause.RepairResult.TheVariants as result
use Rattle.store_core.specs.Shown.{shown_of}
use Rattle.store_core.specs.Step.{Shortage}
use Rattle.hist_rules.specs.Calls.{rebuild_of}
use Rattle.hist_rules.specs.FoundMissing.{TellsDowns}

-- its stripe, and downs of its server
abbrev pub NamesLoss : Script → RepairResult → Rebuild → Type 0
NamesLoss script (result.Unavailable stripe missing) rebuild = rebuild.stripe ≡ stripe
NamesLoss script (result.Away told) rebuild = TellsDowns script rebuild.server told
NamesLoss script _ rebuild = ⊤

-- no rebuild is unavailable for another stripe, or ends for a server that never was away
abbrev pub RunsNameLosses : Type 0
RunsNameLosses =
    (script : Script) (shortages : List Shortage) → IsGeometry script.geometry → IsValid script →
    All (λ line. IfSome (rebuild_of script line.call) (NamesLoss script line.result)) (shown_of script shortages).repairs

-- What threaded runs show is what it should be.
use Rattle.clay_grid.specs.Limits.{IsGeometry}
use Rattle.store_map.specs.Naming.{IsValid}
use Rattle.store_map.specs.declared.script.Script.{Script}
use Rattle.store_map.specs.declared.transcript.Transcript.{Transcript}
use Rattle.store_core.specs.Core.{Core}
use Rattle.store_core.specs.Shown.{shown}
use Rattle.thread_laws.specs.Histories.{Histories}
use Rattle.thread_laws.specs.Threaded.{IsThreadedRun}
use Rattle.thread_laws.specs.Ended.{HaveEnded, RanApart}
use Rattle.thread_laws.specs.Run.{IsRun, core_of}

-- of every valid script, whatever order its steps came in and whatever was wanting of memory, where each actor has made its steps to its end
abbrev pub ThreadedRunsAreRuns : Type 0
ThreadedRunsAreRuns =
    (script : Script) (t : Transcript) → IsGeometry script.geometry → IsValid script → (run : IsThreadedRun script t) → HaveEnded script (core_of script t run) → IsRun script t

-- so it is of what steps show that were made apart
abbrev pub StepsShowRuns : Type 0
StepsShowRuns = (script : Script) (h : Histories) (end : Core) → IsGeometry script.geometry → IsValid script → RanApart script h end → IsRun script (shown script end)

-- Laws on time: a drain is its steps, and what a run shows is in time.
use Rattle.std.specs.Prelude.{◌≡◌, List}
use Rattle.clay_grid.specs.Limits.{IsGeometry}
use Rattle.store_map.specs.Naming.{IsValid}
use Rattle.store_map.specs.declared.actor.Token.{Token}
use Rattle.store_map.specs.declared.script.Script.{Script}
use Rattle.store_map.specs.declared.transcript.Transcript.{Transcript}
use Rattle.store_core.specs.Run.{Run}
use Rattle.store_core.specs.Schedule.{run_tokens, run_core}
use Rattle.store_core.specs.Shown.{shown}
use Rattle.store_core.specs.Step.{Shortage}
use Rattle.history_laws.specs.Trace.{Made}
use Rattle.history_laws.specs.Steps.{steps_of, run_trace}
use Rattle.history_laws.specs.LineCauses.{LinesAreCaused}
use Rattle.history_laws.specs.PointsInTime.{HasPointsInTime}
use Rattle.history_laws.specs.LossesInTime.{HasLossesInTime}

-- the steps of tokens make the same run
abbrev pub DrainsAreSteps : Type 0
DrainsAreSteps = (script : Script) (tokens : List Token) (run : Run) → run_tokens script (steps_of script tokens run) run ≡ run_tokens script tokens run

-- of every run of a valid script, whatever was wanting of memory, what is shown has a property beside its trace
abbrev pub RunsShowInTime : (List Made → Transcript → Type 0) → Type 0
RunsShowInTime Has =
    (script : Script) (shortages : List Shortage) → IsGeometry script.geometry → IsValid script → (tokens : List Token) →
    Has (run_trace script shortages tokens) (shown script (run_core script shortages tokens))

-- its points are in time
abbrev pub RunsHavePointsInTime : Type 0
RunsHavePointsInTime = RunsShowInTime HasPointsInTime

-- and its losses
abbrev pub RunsHaveLossesInTime : Type 0
RunsHaveLossesInTime = RunsShowInTime HasLossesInTime

-- and each refusal and each result is caused by what its call was told
abbrev pub RunsShowCauses : Type 0
RunsShowCauses =
    (script : Script) (shortages : List Shortage) → IsGeometry script.geometry → IsValid script → (tokens : List Token) → LinesAreCaused script (run_trace script shortages tokens) (shown script (run_core script shortages tokens))

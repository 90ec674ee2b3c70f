-- Calls that nothing hinders are answered in every run, and what a run shows is as a whole what it should be.
use Rattle.std.specs.Prelude.{List}
use Rattle.clay_grid.specs.Limits.{IsGeometry}
use Rattle.store_map.specs.Naming.{IsValid}
use Rattle.store_map.specs.declared.actor.Token.{Token}
use Rattle.store_map.specs.declared.script.Script.{Script}
use Rattle.store_map.specs.declared.call_name.CallName.{CallName}
use Rattle.store_core.specs.Schedule.{run_core}
use Rattle.store_core.specs.Shown.{shown, shown_of}
use Rattle.store_core.specs.Step.{Shortage}
use Rattle.history_laws.specs.Steps.{run_trace}
use Rattle.history_laws.specs.Over.{IsOver, MadeAllSteps}
use Rattle.history_laws.specs.Answered.{TellsEnds, AnswersTheUnhindered}
use Rattle.history_laws.specs.Played.{IsPlayed}

-- of every valid script, by whatever tokens, each call that is over has a reply, a refusal or a result
abbrev pub RunsTellEnds : Type 0
RunsTellEnds =
    (script : Script) (shortages : List Shortage) → IsGeometry script.geometry → IsValid script → (tokens : List Token) →
    TellsEnds script (run_trace script shortages tokens) (shown script (run_core script shortages tokens))

-- each call is over that has made all the steps that such a call makes at most, whatever was wanting of memory
abbrev pub EnoughStepsEndCalls : Type 0
EnoughStepsEndCalls =
    (script : Script) (shortages : List Shortage) → IsGeometry script.geometry → IsValid script → (tokens : List Token) → (call : CallName) →
    MadeAllSteps script (run_trace script shortages tokens) call → IsOver script (run_trace script shortages tokens) call

-- and each call that nothing hinders is answered
abbrev pub RunsAnswer : Type 0
RunsAnswer =
    (script : Script) (shortages : List Shortage) → IsGeometry script.geometry → IsValid script → (tokens : List Token) →
    AnswersTheUnhindered script (run_trace script shortages tokens) (shown script (run_core script shortages tokens))

-- by the script's schedule, with all that is said of what runs show
abbrev pub RunsArePlayed : Type 0
RunsArePlayed = (script : Script) (shortages : List Shortage) → IsGeometry script.geometry → IsValid script → IsPlayed script (shown_of script shortages)

-- Each step of a call in a trace is the one that the call makes next.
use Rattle.std.specs.Prelude.{◌≡◌, Bool, true, false, List, [], ◌∷◌, ◌++◌, Some}
use Rattle.clay_grid.specs.Limits.{IsGeometry}
use Rattle.store_map.specs.Limits.{tries_of}
use Rattle.store_map.specs.Naming.{IsValid}
use Rattle.store_map.specs.declared.actor.Token.{Token}
use Rattle.store_map.specs.declared.script.Script.{Script}
use Rattle.store_map.specs.declared.call_name.CallName.{CallName}
use Rattle.store_core.specs.NextAct.{Job}
use Rattle.store_core.specs.Step.{Shortage}
use Rattle.store_core.specs.Told.{Told}
use Rattle.run_laws.specs.ToldInSteps.{act_after}
use Rattle.history_laws.specs.LineCauses.{job_of_call}
use Rattle.history_laws.specs.Moments.{IsOf}
use Rattle.history_laws.specs.Steps.{run_trace}
use Rattle.history_laws.specs.Trace.{Made}
use Rattle.history_laws.specs.Over.{answers_to}

-- want of memory in the coding before a step is told before it
abbrev pub told_before : Bool → List Told
told_before true = Told.Short ∷ []
told_before false = []

-- after what the run told the call before
abbrev pub StepsAreNext : Script → List Made → Type 0
StepsAreNext script trace =
    (call : CallName) (job : Job) → job_of_call script call ≡ Some job → (before : List Made) (made : Made) (after : List Made) → trace ≡ before ++ made ∷ after → IsOf call made →
    made.act ≡ act_after script.geometry (tries_of script) job (answers_to call before ++ told_before made.short)

-- so it is in every run
abbrev pub RunsStepNext : Type 0
RunsStepNext = (script : Script) (shortages : List Shortage) → IsGeometry script.geometry → IsValid script → (tokens : List Token) → StepsAreNext script (run_trace script shortages tokens)

-- Each refusal and each rebuild's result that a run shows is the outcome of its call after what the run told it, which causes it.
use Rattle.std.specs.Prelude.{◌≡◌, ℕ, Bool, true, false, ◌&&◌, nat_eq, List, [], ◌∷◌, ◌++◌, Option, None, Some, All, option_and_then}
use Rattle.std.specs.List.{slice_get}
use Rattle.store_map.specs.Limits.{size_of, tries_of}
use Rattle.store_map.specs.declared.actor.Actor.{Actor}
use Rattle.store_map.specs.declared.actor.Actor.TheVariants as actor
use Rattle.store_map.specs.declared.call.Rebuild.{Rebuild}
use Rattle.store_map.specs.declared.script.Script.{Script}
use Rattle.store_map.specs.declared.call_name.CallName.{CallName}
use Rattle.store_map.specs.declared.call_name.CallName.TheVariants as name
use Rattle.store_map.specs.declared.line.XLine.{XLine}
use Rattle.store_map.specs.declared.line.RLine.{RLine}
use Rattle.store_map.specs.declared.transcript.Transcript.{Transcript}
use Rattle.hist_rules.specs.Calls.{rebuild_of}
use Rattle.store_core.specs.Act.{Act, Outcome}
use Rattle.store_core.specs.Lookups.{same_actor}
use Rattle.store_core.specs.NextAct.{Job}
use Rattle.store_core.specs.Outcomes.{cause_of, result_of}
use Rattle.store_core.specs.Told.{Told}
use Rattle.store_core.specs.Work.{Work, client_work, repairer_work}
use Rattle.run_laws.specs.OutcomeLaws.{HasCauseInSteps}
use Rattle.run_laws.specs.ToldInSteps.{AreTold, act_after}
use Rattle.history_laws.specs.Trace.{Made}

-- what a step told its call: want of memory in the coding before it, and its answer
abbrev pub told_by : Bool → Told → List Told
told_by true answer = Told.Short ∷ answer ∷ []
told_by false answer = answer ∷ []

abbrev pub told_if : Bool → Made → List Told → List Told
told_if true made told = told_by made.short made.answer ++ told
told_if false made told = told

-- all that the steps of a trace told an actor's call, in order
abbrev pub told_to : Actor → ℕ → List Made → List Told
told_to who number [] = []
told_to who number (made ∷ trace) = told_if (same_actor who made.who && nat_eq number made.number) made (told_to who number trace)

-- whose call a name is, and which
abbrev pub caller_of : CallName → Actor
caller_of (name.Client call) = actor.Client call.client
caller_of (name.Repairer call) = actor.Repairer call.repairer

abbrev pub number_of : CallName → ℕ
number_of (name.Client call) = call.number
number_of (name.Repairer call) = call.number

-- it, as what its actor has to do
abbrev pub job_of_call : Script → CallName → Option Job
job_of_call script (name.Client call) = option_and_then (λ (work : Work). slice_get work.jobs call.number) (slice_get (client_work script) call.client)
job_of_call script (name.Repairer call) = option_and_then (λ (work : Work). slice_get work.jobs call.number) (slice_get (repairer_work script) call.repairer)

-- a repairer's call, as the script has it; a client's is no rebuild
abbrev pub rebuild_named : Script → CallName → Option Rebuild
rebuild_named script (name.Client call) = None
rebuild_named script (name.Repairer call) = rebuild_of script call

-- after what the call was told, which it can be told, it ends with an outcome that this causes
pub record WasCaused (script : Script) (trace : List Made) (call : CallName) (Shows : Outcome → Type 0) : Type 0 where
  pub job : Job
  pub is_call : job_of_call script call ≡ Some job
  pub are_told : AreTold script.geometry (size_of script) (tries_of script) job (told_to (caller_of call) (number_of call) trace)
  pub outcome : Outcome
  pub ends : act_after script.geometry (tries_of script) job (told_to (caller_of call) (number_of call) trace) ≡ Act.Finish outcome
  pub shows : Shows outcome
  pub caused : HasCauseInSteps script.geometry (tries_of script) job outcome (told_to (caller_of call) (number_of call) trace)

-- so it is of each line
pub record LinesAreCaused (script : Script) (trace : List Made) (t : Transcript) : Type 0 where
  pub refused : All (λ (line : XLine). WasCaused script trace (name.Client line.call) (λ outcome. cause_of outcome ≡ Some line.cause)) t.refused
  pub repairs : All (λ (line : RLine). WasCaused script trace (name.Repairer line.call) (λ outcome. result_of outcome ≡ Some line.result)) t.repairs

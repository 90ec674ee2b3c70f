-- When a call is over, by the steps of a run.
use Rattle.std.specs.Prelude.{◌≡◌, ℕ, ◌≤◌, ◌&&◌, nat_eq, List, count_by, Some}
use Rattle.store_map.specs.Limits.{tries_of}
use Rattle.store_map.specs.declared.script.Script.{Script}
use Rattle.store_map.specs.declared.call_name.CallName.{CallName}
use Rattle.store_core.specs.Act.{Act, Outcome}
use Rattle.store_core.specs.Lookups.{same_actor}
use Rattle.store_core.specs.NextAct.{Job}
use Rattle.store_core.specs.Told.{Told}
use Rattle.run_laws.specs.DrainLaws.{pinned_bound}
use Rattle.run_laws.specs.ToldInSteps.{act_after}
use Rattle.history_laws.specs.LineCauses.{told_to, caller_of, number_of, job_of_call}
use Rattle.history_laws.specs.Trace.{Made}

-- all that the steps of a run told a call, in order
abbrev pub answers_to : CallName → List Made → List Told
answers_to call trace = told_to (caller_of call) (number_of call) trace

-- after them the call has no step left
abbrev pub IsOver : Script → List Made → CallName → Type 0
IsOver script trace call =
    (job : Job) × (job_of_call script call ≡ Some job) × ((outcome : Outcome) × (act_after script.geometry (tries_of script) job (answers_to call trace) ≡ Act.Finish outcome))

-- how many steps the call made
abbrev pub steps_made : CallName → List Made → ℕ
steps_made call trace = count_by (λ (made : Made). same_actor (caller_of call) made.who && nat_eq (number_of call) made.number) trace

-- it made as many as such a call makes at most, a get or a read of as many stripes as it pinned
abbrev pub MadeAllSteps : Script → List Made → CallName → Type 0
MadeAllSteps script trace call =
    (job : Job) × (job_of_call script call ≡ Some job) × (pinned_bound script.geometry (tries_of script) job.note (answers_to call trace) ≤ steps_made call trace)

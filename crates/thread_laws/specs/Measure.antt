-- The steps that a client or a repairer has left at most.
use Rattle.std.specs.Prelude.{ℕ, ◌+◌, ◌≤◌, List, [], ◌∷◌, length, drop, sum_by, Some, ◌≡◌}
use Rattle.std.specs.List.{slice_get}
use Rattle.clay_grid.specs.Shape.{Shape, chunk_count}
use Rattle.store_map.specs.Limits.{size_of, tries_of}
use Rattle.store_map.specs.declared.script.Script.{Script}
use Rattle.store_core.specs.ActPlace.{ActPlace}
use Rattle.store_core.specs.Bounds.{step_bound}
use Rattle.store_core.specs.NextAct.{Job}
use Rattle.store_core.specs.Told.{Told}
use Rattle.store_core.specs.Work.{Work, Calling, new_calling}
use Rattle.run_laws.specs.CallLeft.{call_left}
use Rattle.run_laws.specs.StepLaws.{HasTarget}
use Rattle.thread_laws.specs.MadeSteps.{MadeStep}
use Rattle.thread_laws.specs.AtPlaces.{after_all}
use Rattle.thread_laws.specs.ByActors.{calling_next}
use Rattle.thread_laws.specs.OwnSteps.{own_steps}

-- of jobs of which the first was told this
abbrev pub left_ahead : Shape → ℕ → ℕ → List Job → List Told → ℕ
left_ahead g max tries [] told = 0
left_ahead g max tries (job ∷ later) told = call_left g max tries job told + sum_by (λ j. step_bound g max tries j.note) later

-- of an actor
abbrev pub left_of : Script → Work → Calling → ℕ
left_of script work calling = left_ahead script.geometry (size_of script) (tries_of script) (drop (length calling.ended) work.jobs) calling.told

-- of one with these own steps at each place
abbrev pub left_at : Script → Work → (ActPlace → List MadeStep) → ℕ
left_at script work at =
    left_of script work (after_all (calling_next script work) (own_steps (chunk_count script.geometry) at) (new_calling (chunk_count script.geometry)))

-- the steps that all its calls make at most
abbrev pub bound_of : Script → Work → ℕ
bound_of script work = sum_by (λ job. step_bound script.geometry (size_of script) (tries_of script) job.note) work.jobs

-- the steps of the call in work and those that are left are within that bound
abbrev pub IsBounded : Script → Work → Calling → Type 0
IsBounded script work calling = calling.steps + left_of script work calling ≤ bound_of script work

-- each rebuild makes a chunk of a server that there is
abbrev pub HasTargets : Script → Work → Type 0
HasTargets script work = (k : ℕ) (job : Job) → slice_get work.jobs k ≡ Some job → HasTarget script.geometry job

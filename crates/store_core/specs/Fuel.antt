-- How many steps a drain makes at most.
use Rattle.std.specs.Prelude.{ℕ, ◌+◌, ◌-◌, ◌*◌, length, sum_by, drop, zip}
use Rattle.store_map.specs.Limits.{size_of, tries_of}
use Rattle.store_map.specs.declared.script.Script.{Script}
use Rattle.store_core.specs.Bounds.{step_bound, draw_bound, sweep_bound}
use Rattle.store_core.specs.Core.{Core}
use Rattle.store_core.specs.Work.{Calling, Work, client_work, repairer_work}

-- the steps that an actor's calls have left at most: the bounds of those that have not ended, less the steps made
abbrev pub steps_left : Script → Work → Calling → ℕ
steps_left script work calling =
    sum_by (λ job. step_bound script.geometry (size_of script) (tries_of script) job.note) (drop (length calling.ended) work.jobs) - calling.steps

-- the versions that an actor's calls may yet draw
abbrev pub draws_left : Script → Work → Calling → ℕ
draws_left script work calling = sum_by (λ job. draw_bound script.geometry (tries_of script) job.note) (drop (length calling.ended) work.jobs)

-- a number of each actor, summed
abbrev pub sum_over_actors : (Work → Calling → ℕ) → Script → Core → ℕ
sum_over_actors f script core =
    sum_by (λ both. f both.0 both.1) (zip (client_work script) core.clients)
    + sum_by (λ both. f both.0 both.1) (zip (repairer_work script) core.repairers)

-- a bound on all steps that a drain makes: those of the calls, and those of the sweeper for each version that is drawn or may be
abbrev pub fuel_of : Script → Core → ℕ
fuel_of script core =
    sum_over_actors (steps_left script) script core
    + sweep_bound script.geometry * (length core.directory.versions + sum_over_actors (draws_left script) script core)

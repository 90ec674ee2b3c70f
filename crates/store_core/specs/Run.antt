-- One token of a schedule, but for a drain.
use Rattle.std.specs.Prelude.{ℕ, false, List, [], ◌∷◌, drop, Option, None, Some}
use Rattle.std.specs.List.{slice_get}
use Rattle.clay_grid.specs.Shape.{chunk_count}
use Rattle.store_map.specs.declared.script.Script.{Script}
use Rattle.store_map.specs.declared.actor.Actor.TheVariants as actor
use Rattle.store_core.specs.Lists.{change_at}
use Rattle.store_core.specs.Told.{Told}
use Rattle.store_core.specs.Act.{Act}
use Rattle.store_core.specs.Sweep.{next_sweep, after_sweep}
use Rattle.store_core.specs.Core.{Core}
use Rattle.store_core.specs.Work.{Calling, client_work, repairer_work}
use Rattle.store_core.specs.Step.{Shortage, Places, at_places}
use Rattle.store_core.specs.CallStep.{step_of}

-- a core, and the shortages of the steps to come; where none is left memory is ample
pub record Run : Type 0 where
  pub core : Core
  pub shortages : List Shortage

-- the shortage of the next step
abbrev pub first_shortage : List Shortage → Shortage
first_shortage [] = record { coding = false; step = false }
first_shortage (shortage ∷ more) = shortage

-- each step that is made uses up the shortage of its place
abbrev pub after_step : Run → Core → Run
after_step run core = record { core = core; shortages = drop 1 run.shortages }

-- the places of a core
abbrev pub places_in : Core → Places
places_in core = record { directory = core.directory; servers = core.servers }

-- a core with its places changed
abbrev pub with_places : Places → Core → Core
with_places places core = record core { directory = places.directory; servers = places.servers }

-- a step of the operator, who has no call
abbrev pub operator_step : Act → Run → Run
operator_step act run = after_step run (with_places (at_places false actor.Operator 0 act (places_in run.core)).0 run.core)

-- a step of the sweeper
abbrev pub sweeper_step : Script → Run → Run
sweeper_step script run =
    let n : ℕ = chunk_count script.geometry in
    let after : Places × Told = at_places false actor.Sweeper 0 (next_sweep n run.core.sweeper) (places_in run.core) in
    after_step run (with_places after.0 (record (run.core) { sweeper = after_sweep n run.core.sweeper after.1 }))

-- the client and the places are changed
abbrev pub after_client : ℕ → Run → Option (Places × Calling) → Run
after_client i run None = run
after_client i run (Some after) = after_step run (with_places after.0 (record (run.core) { clients = change_at i (λ _. after.1) run.core.clients }))

-- the repairer and the places are changed
abbrev pub after_repairer : ℕ → Run → Option (Places × Calling) → Run
after_repairer i run None = run
after_repairer i run (Some after) = after_step run (with_places after.0 (record (run.core) { repairers = change_at i (λ _. after.1) run.core.repairers }))

-- client i makes its next step
abbrev pub client_step : Script → ℕ → Run → Run
client_step script i run =
    after_client i run (step_of script (first_shortage run.shortages) (actor.Client i) (slice_get (client_work script) i) (slice_get run.core.clients i) (places_in run.core))

-- repairer i makes its next step
abbrev pub repairer_step : Script → ℕ → Run → Run
repairer_step script i run =
    after_repairer i run (step_of script (first_shortage run.shortages) (actor.Repairer i) (slice_get (repairer_work script) i) (slice_get run.core.repairers i) (places_in run.core))

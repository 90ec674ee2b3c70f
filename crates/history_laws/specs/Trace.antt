-- The trace of a run: each step that was made, with its answer.
use Rattle.std.specs.Prelude.{ℕ, Bool, true, false, ◌&&◌, List, [], ◌∷◌, ◌++◌, length, Option, None, Some}
use Rattle.std.specs.List.{slice_get}
use Rattle.clay_grid.specs.Shape.{chunk_count}
use Rattle.store_map.specs.Limits.{tries_of}
use Rattle.store_map.specs.declared.actor.Actor.{Actor}
use Rattle.store_map.specs.declared.actor.Actor.TheVariants as actor
use Rattle.store_map.specs.declared.actor.Token.{Token}
use Rattle.store_map.specs.declared.actor.Token.TheVariants as token
use Rattle.store_map.specs.declared.script.Script.{Script}
use Rattle.store_core.specs.Act.{Act, DirectoryStep, ServerStep}
use Rattle.store_core.specs.ActPlace.{is_in_pass}
use Rattle.store_core.specs.NextAct.{Job, next_act}
use Rattle.store_core.specs.Run.{Run, first_shortage, places_in}
use Rattle.store_core.specs.Schedule.{step_core}
use Rattle.store_core.specs.Step.{Shortage, Places, at_places, told_first}
use Rattle.store_core.specs.Sweep.{next_sweep}
use Rattle.store_core.specs.Told.{Told}
use Rattle.store_core.specs.Work.{Calling, Work, client_work, repairer_work, has_step}

-- a step: whose, in which of its calls, whether memory was wanting in the coding before it, what was done and what was answered
pub record Made : Type 0 where
  pub who : Actor
  pub number : ℕ
  pub short : Bool
  pub act : Act
  pub answer : Told

-- the next step of an actor's call
abbrev pub call_made : Script → Shortage → Actor → Calling → Places → Job → Made
call_made script shortage who calling places job =
    let has_pass : Bool = is_in_pass (next_act script.geometry (tries_of script) job calling.told) in
    let told : List Told = told_first shortage.coding has_pass script.geometry job calling.told in
    let act : Act = next_act script.geometry (tries_of script) job told in
    record { who = who; number = length calling.ended; short = shortage.coding && has_pass; act = act; answer = (at_places shortage.step who (length calling.ended) act places).1 }

-- if it has a call that is left
abbrev pub job_made : Script → Shortage → Actor → Calling → Places → Option Job → List Made
job_made script shortage who calling places None = []
job_made script shortage who calling places (Some job) = call_made script shortage who calling places job ∷ []

-- only an actor that has a step makes one
abbrev pub made_if : Bool → Script → Shortage → Actor → Work → Calling → Places → List Made
made_if false script shortage who work calling places = []
made_if true script shortage who work calling places = job_made script shortage who calling places (slice_get work.jobs (length calling.ended))

abbrev pub made_by : Script → Shortage → Actor → Option Work → Option Calling → Places → List Made
made_by script shortage who (Some work) (Some calling) places = made_if (has_step work calling) script shortage who work calling places
made_by script shortage who work calling places = []

-- the step of an actor without calls
abbrev pub act_made : Actor → Act → Places → Made
act_made who act places = record { who = who; number = 0; short = false; act = act; answer = (at_places false who 0 act places).1 }

-- the step of one token, but for a drain
abbrev pub made_of : Script → Token → Run → List Made
made_of script (token.Client i) run = made_by script (first_shortage run.shortages) (actor.Client i) (slice_get (client_work script) i) (slice_get run.core.clients i) (places_in run.core)
made_of script (token.Repairer i) run = made_by script (first_shortage run.shortages) (actor.Repairer i) (slice_get (repairer_work script) i) (slice_get run.core.repairers i) (places_in run.core)
made_of script token.Sweep run = act_made actor.Sweeper (next_sweep (chunk_count script.geometry) run.core.sweeper) (places_in run.core) ∷ []
made_of script (token.Wipe server) run = act_made actor.Operator (Act.AtServer server ServerStep.Wipe) (places_in run.core) ∷ []
made_of script (token.Down server) run = act_made actor.Operator (Act.AtServer server ServerStep.Down) (places_in run.core) ∷ []
made_of script (token.Up server) run = act_made actor.Operator (Act.AtServer server ServerStep.Up) (places_in run.core) ∷ []
made_of script (token.ReapClient i) run = act_made actor.Operator (Act.AtDirectory (DirectoryStep.Reap (actor.Client i))) (places_in run.core) ∷ []
made_of script (token.ReapRepairer i) run = act_made actor.Operator (Act.AtDirectory (DirectoryStep.Reap (actor.Repairer i))) (places_in run.core) ∷ []
made_of script token.Drain run = []

-- the steps of tokens without a drain
abbrev pub trace_of : Script → List Token → Run → List Made
trace_of script [] run = []
trace_of script (next ∷ tokens) run = made_of script next run ++ trace_of script tokens (step_core script next run)

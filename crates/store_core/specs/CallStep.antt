-- A step of a call, if its actor has one.
use Rattle.std.specs.Prelude.{Bool, true, false, length, Option, None, Some}
use Rattle.std.specs.List.{slice_get}
use Rattle.store_map.specs.Limits.{tries_of}
use Rattle.store_map.specs.declared.script.Script.{Script}
use Rattle.store_map.specs.declared.actor.Actor.{Actor}
use Rattle.store_core.specs.NextAct.{Job}
use Rattle.store_core.specs.Work.{Calling, Work, has_step}
use Rattle.store_core.specs.Step.{Shortage, Places, actor_step}

-- the step of a call, if there is one; an actor without a step does nothing
abbrev pub job_step : Script → Shortage → Actor → Calling → Places → Option Job → Option (Places × Calling)
job_step script shortage who calling places None = None
job_step script shortage who calling places (Some job) = Some (actor_step script.geometry (tries_of script) shortage who job calling places)

-- only an actor that has a step makes one
abbrev pub step_if : Bool → Script → Shortage → Actor → Work → Calling → Places → Option (Places × Calling)
step_if false script shortage who work calling places = None
step_if true script shortage who work calling places = job_step script shortage who calling places (slice_get work.jobs (length calling.ended))

-- by what the actor has to do and how far it has come
abbrev pub step_of : Script → Shortage → Actor → Option Work → Option Calling → Places → Option (Places × Calling)
step_of script shortage who (Some work) (Some calling) places = step_if (has_step work calling) script shortage who work calling places
step_of script shortage who work calling places = None

-- What a run tells a call is what the call can be told, step by step.
use Rattle.std.specs.Prelude.{◌≡◌, ℕ, List, [], fold, length, Some}
use Rattle.std.specs.List.{slice_get}
use Rattle.clay_grid.specs.Limits.{IsGeometry}
use Rattle.store_map.specs.Limits.{size_of, tries_of}
use Rattle.store_map.specs.Naming.{IsValid}
use Rattle.store_map.specs.declared.actor.Token.{Token}
use Rattle.store_map.specs.declared.script.Script.{Script}
use Rattle.store_core.specs.Act.{Act, Outcome}
use Rattle.store_core.specs.Core.{Core}
use Rattle.store_core.specs.NextAct.{Job}
use Rattle.store_core.specs.Schedule.{run_core}
use Rattle.store_core.specs.Step.{Shortage}
use Rattle.store_core.specs.Tell.{tell}
use Rattle.store_core.specs.Told.{Told}
use Rattle.store_core.specs.Work.{Ended, Work, Calling, client_work, repairer_work}
use Rattle.run_laws.specs.ToldInSteps.{AreTold, act_after}

-- what is kept is what was told step by step
pub record WasToldSo (script : Script) (job : Job) (told : List Told) : Type 0 where
  pub answers : List Told
  pub are_told : AreTold script.geometry (size_of script) (tries_of script) job answers
  pub kept : fold (tell script.geometry job) [] answers ≡ told

-- a call ended after such answers
pub record EndedSo (script : Script) (job : Job) (outcome : Outcome) : Type 0 where
  pub answers : List Told
  pub are_told : AreTold script.geometry (size_of script) (tries_of script) job answers
  pub ends : act_after script.geometry (tries_of script) job answers ≡ Act.Finish outcome

-- an actor's call in work, and those that have ended
pub record CallsWereTold (script : Script) (work : Work) (calling : Calling) : Type 0 where
  pub in_work : (job : Job) → slice_get work.jobs (length calling.ended) ≡ Some job → WasToldSo script job calling.told
  pub ended :
      (k : ℕ) (job : Job) (ended : Ended) → slice_get work.jobs k ≡ Some job → slice_get calling.ended k ≡ Some ended →
      EndedSo script job ended.outcome

-- all actors of one kind
abbrev pub GroupWasTold : Script → List Work → List Calling → Type 0
GroupWasTold script works callings =
    (i : ℕ) (work : Work) (calling : Calling) → slice_get works i ≡ Some work → slice_get callings i ≡ Some calling → CallsWereTold script work calling

-- all actors of a core
pub record AllWereTold (script : Script) (core : Core) : Type 0 where
  pub clients : GroupWasTold script (client_work script) core.clients
  pub repairers : GroupWasTold script (repairer_work script) core.repairers

-- so in every run of a valid script, whatever was wanting of memory
abbrev pub CallsAreTold : Type 0
CallsAreTold =
    (script : Script) (shortages : List Shortage) → IsGeometry script.geometry → IsValid script →
    (tokens : List Token) → AllWereTold script (run_core script shortages tokens)

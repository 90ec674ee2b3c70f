-- Whose passes stand in the directory of a run: those of calls in work, and of no other.
use Rattle.std.specs.Prelude.{◌≡◌, ℕ, ◌<◌, List, length, IfSome, Some, IsTrue, is_some}
use Rattle.std.specs.List.{slice_get}
use Rattle.clay_grid.specs.Limits.{IsGeometry}
use Rattle.store_map.specs.Limits.{tries_of}
use Rattle.store_map.specs.Naming.{IsValid}
use Rattle.store_map.specs.declared.actor.Actor.{Actor}
use Rattle.store_map.specs.declared.actor.Actor.TheVariants as actor
use Rattle.store_map.specs.declared.actor.Token.{Token}
use Rattle.store_map.specs.declared.script.Script.{Script}
use Rattle.store_core.specs.Act.{Act, DirectoryStep}
use Rattle.run_laws.specs.AnswerLaws.{is_on_pass}
use Rattle.store_core.specs.Core.{Core}
use Rattle.store_core.specs.Directory.{Pass, Directory}
use Rattle.store_core.specs.Lookups.{pass_of}
use Rattle.store_core.specs.NextAct.{Job, next_act}
use Rattle.store_core.specs.Schedule.{run_core}
use Rattle.store_core.specs.Step.{Shortage}
use Rattle.store_core.specs.Work.{Work, Calling, client_work, repairer_work}

-- the pass is of the call that its actor has in work, and the call has made a step; so a call that has ended, or that has not begun, has none
pub record IsOfCallInWork (work : Work) (calling : Calling) (pass : Pass) : Type 0 where
  pub job : Job
  pub in_work : slice_get work.jobs (length calling.ended) ≡ Some job
  pub begun : 0 < calling.steps
  pub note : pass.note ≡ job.note

-- an actor and its pass; a call whose next step is one on its pass has one
pub record KeepsPass (script : Script) (who : Actor) (d : Directory) (work : Work) (calling : Calling) : Type 0 where
  pub of_call : IfSome (pass_of who d) (IsOfCallInWork work calling)
  pub there :
      (job : Job) (step : DirectoryStep) → slice_get work.jobs (length calling.ended) ≡ Some job →
      next_act script.geometry (tries_of script) job calling.told ≡ Act.AtDirectory step → IsTrue (is_on_pass step) → IsTrue (is_some (pass_of who d))

-- all actors of a core
pub record KeepPasses (script : Script) (core : Core) : Type 0 where
  pub clients :
      (i : ℕ) → IfSome (slice_get (client_work script) i) (λ work. IfSome (slice_get core.clients i) (KeepsPass script (actor.Client i) core.directory work))
  pub repairers :
      (i : ℕ) → IfSome (slice_get (repairer_work script) i) (λ work. IfSome (slice_get core.repairers i) (KeepsPass script (actor.Repairer i) core.directory work))

-- so in every run of a valid script, whatever was wanting of memory
abbrev pub PassesAreOfCalls : Type 0
PassesAreOfCalls =
    (script : Script) (shortages : List Shortage) → IsGeometry script.geometry → IsValid script →
    (tokens : List Token) → KeepPasses script (run_core script shortages tokens)

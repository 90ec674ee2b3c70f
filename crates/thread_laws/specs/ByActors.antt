-- What the list of an actor says: each step is the one that the actor makes next, and how the actor ends.
use Rattle.std.specs.Prelude.{◌≡◌, Bool, true, false, List, length, Option, None, Some}
use Rattle.std.specs.List.{slice_get}
use Rattle.clay_grid.specs.Shape.{chunk_count}
use Rattle.store_map.specs.Limits.{tries_of}
use Rattle.store_map.specs.declared.script.Script.{Script}
use Rattle.store_core.specs.Told.{Told}
use Rattle.store_core.specs.Act.{Act}
use Rattle.store_core.specs.ActPlace.{is_in_pass}
use Rattle.store_core.specs.NextAct.{Job, next_act}
use Rattle.store_core.specs.Sweep.{Sweeper, next_sweep, after_sweep}
use Rattle.store_core.specs.Work.{Work, Calling, has_step}
use Rattle.store_core.specs.Step.{Shortage, told_first, after_answer}
use Rattle.thread_laws.specs.MadeSteps.{MadeStep}

-- the call that an actor has in work, if it has a step
abbrev pub job_if : Bool → Work → Calling → Option Job
job_if true work calling = slice_get work.jobs (length calling.ended)
job_if false work calling = None

-- what the call was told when it makes this step: the want of memory in its coding comes first
abbrev pub told_now : Script → MadeStep → Job → Calling → List Told
told_now script m job calling =
    told_first m.shortage.coding (is_in_pass (next_act script.geometry (tries_of script) job calling.told)) script.geometry job calling.told

-- the actor after the step's answer
abbrev pub called_next : Script → MadeStep → Option Job → Calling → Calling
called_next script m None calling = calling
called_next script m (Some job) calling =
    after_answer script.geometry (tries_of script) job (told_now script m job calling) m.act m.answer calling

abbrev pub calling_next : Script → Work → MadeStep → Calling → Calling
calling_next script work m calling = called_next script m (job_if (has_step work calling) work calling) calling

-- the act is a step at a place
abbrev pub IsAtAPlace : Act → Type 0
IsAtAPlace (Act.Finish outcome) = ⊥
IsAtAPlace act = Unit {0}

-- the step is the next one of the actor's call
abbrev pub IsNextOf : Script → MadeStep → Calling → Option Job → Type 0
IsNextOf script m calling None = ⊥
IsNextOf script m calling (Some job) =
    (next_act script.geometry (tries_of script) job (told_now script m job calling) ≡ m.act) × (m.number ≡ length calling.ended) × IsAtAPlace m.act

abbrev pub IsNext : Script → Work → MadeStep → Calling → Type 0
IsNext script work m calling = IsNextOf script m calling (job_if (has_step work calling) work calling)

-- memory was ample
abbrev pub no_shortage : Shortage
no_shortage = record { coding = false; step = false }

-- a step of the sweeper or the operator, who have no call, and whose steps take no memory
pub record HasNoCall (m : MadeStep) : Type 0 where
  pub number : m.number ≡ 0
  pub shortage : m.shortage ≡ no_shortage
  pub placed : IsAtAPlace m.act

abbrev pub sweeper_next : Script → MadeStep → Sweeper → Sweeper
sweeper_next script m sweeper = after_sweep (chunk_count script.geometry) sweeper m.answer

-- the step is the sweeper's next one
pub record IsNextSweep (script : Script) (m : MadeStep) (sweeper : Sweeper) : Type 0 where
  pub act : m.act ≡ next_sweep (chunk_count script.geometry) sweeper
  pub alone : HasNoCall m

-- What rebuilds and reads take, and that each call of a run that has ended has such answers.
use Rattle.std.specs.Prelude.{◌≡◌, ◌≢◌, ℕ, ◌-◌, ◌^◌, ◌<◌, ◌⊎◌, min, List, get_or, Some, Contains}
use Rattle.std.specs.List.{slice_get}
use Rattle.clay_grid.specs.Limits.{IsGeometry}
use Rattle.clay_grid.specs.Shape.{Shape, chunk_count, row_count, column_count}
use Rattle.store_map.specs.Limits.{tries_of}
use Rattle.store_map.specs.Naming.{IsValid}
use Rattle.store_map.specs.declared.actor.Token.{Token}
use Rattle.store_map.specs.declared.script.Script.{Script}
use Rattle.store_core.specs.Act.{Act, Outcome}
use Rattle.store_core.specs.NextAct.{Job}
use Rattle.store_core.specs.Note.{Note, Kind}
use Rattle.store_core.specs.Read.{parts_of}
use Rattle.store_core.specs.Schedule.{run_core}
use Rattle.store_core.specs.Step.{Shortage}
use Rattle.store_core.specs.Told.{Told, Seen}
use Rattle.store_core.specs.Work.{Ended, Work, Calling, client_work, repairer_work}
use Rattle.run_laws.specs.ToldInSteps.{act_after}
use Rattle.history_laws.specs.TakesOfCalls.{Log, EndedBy, taken_by, missing_count, subchunks_met}

-- nothing from the target, and of each other chunk one part in as many as the grid has rows
pub record TookLeast (g : Shape) (target : ℕ) (takes : List ℕ) : Type 0 where
  pub none : get_or takes target 0 ≡ 0
  pub others : (server : ℕ) → server < chunk_count g → server ≢ target → get_or takes server 0 ≡ row_count g ^ (column_count g - 1)

-- a rebuild asks its target first: where one answer alone tells of a missing chunk it is the target's, and the rebuild takes no more than it has to
abbrev pub RebuildsTakeLeast : Type 0
RebuildsTakeLeast =
    (script : Script) → IsGeometry script.geometry → (job : Job) → job.note.kind ≡ Kind.Rebuild → job.target < chunk_count script.geometry →
    (answers : List Told) → Log script job answers → act_after script.geometry (tries_of script) job answers ≡ Act.Finish Outcome.Rebuilt →
    missing_count answers ≡ 1 → TookLeast script.geometry job.target (taken_by script.geometry (tries_of script) job answers)

-- what a get or a read was told by its look, and that it took just the subchunks that have its bytes; a count of 64 bits stays at its last value
pub record TookRange (g : Shape) (note : Note) (answers : List Told) (takes : List ℕ) : Type 0 where
  pub point : ℕ
  pub size : ℕ
  pub stripes : List Seen
  pub looked : Contains answers (Told.Pinned point size stripes)
  pub met : (server : ℕ) → server < chunk_count g → get_or takes server 0 ≡ min (subchunks_met g (parts_of g note size stripes) server) (2 ^ 64 - 1)

-- a get or a read that is told of no missing chunk takes no more than it has to
abbrev pub ReadsTakeLeast : Type 0
ReadsTakeLeast =
    (script : Script) → (job : Job) → (job.note.kind ≡ Kind.Get) ⊎ (job.note.kind ≡ Kind.ReadAt) →
    (answers : List Told) → Log script job answers → (point : ℕ) → act_after script.geometry (tries_of script) job answers ≡ Act.Finish (Outcome.Served point) →
    missing_count answers ≡ 0 → TookRange script.geometry job.note answers (taken_by script.geometry (tries_of script) job answers)

-- the calls of one actor that have ended
abbrev pub HaveLogs : Script → Work → Calling → Type 0
HaveLogs script work calling =
    (number : ℕ) (job : Job) (ended : Ended) → slice_get work.jobs number ≡ Some job → slice_get calling.ended number ≡ Some ended →
    (answers : List Told) × EndedBy script job ended answers

-- in every run each call that has ended took what its answers gave it
pub record AllHaveLogs (script : Script) (shortages : List Shortage) (tokens : List Token) : Type 0 where
  pub clients :
      (i : ℕ) (work : Work) (calling : Calling) → slice_get (client_work script) i ≡ Some work → slice_get (run_core script shortages tokens).clients i ≡ Some calling →
      HaveLogs script work calling
  pub repairers :
      (i : ℕ) (work : Work) (calling : Calling) → slice_get (repairer_work script) i ≡ Some work → slice_get (run_core script shortages tokens).repairers i ≡ Some calling →
      HaveLogs script work calling

abbrev pub CallsHaveLogs : Type 0
CallsHaveLogs = (script : Script) (shortages : List Shortage) → IsGeometry script.geometry → IsValid script → (tokens : List Token) → AllHaveLogs script shortages tokens

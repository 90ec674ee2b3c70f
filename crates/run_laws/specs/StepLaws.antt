-- The steps that a call has left fall at each of its steps.
use Rattle.std.specs.Prelude.{◌≡◌, ℕ, ◌+◌, ◌*◌, ◌<◌, ◌≤◌, ◌⊎◌, List, [], length}
use Rattle.clay_grid.specs.Shape.{Shape, chunk_count}
use Rattle.store_core.specs.Told.{Told, Seen}
use Rattle.store_core.specs.Note.{Kind}
use Rattle.run_laws.specs.Answers.{Answers}
use Rattle.store_core.specs.Bounds.{step_bound, touched_count}
use Rattle.run_laws.specs.CallLeft.{pin_bound, call_left}
use Rattle.store_core.specs.NextAct.{Job, next_act}
use Rattle.store_core.specs.Tell.{tell}

-- a rebuild makes a chunk of a server that there is
abbrev pub HasTarget : Shape → Job → Type 0
HasTarget g job = job.note.kind ≡ Kind.Rebuild → job.target < chunk_count g

-- a call begins with no more steps left than its bound; each step leaves fewer; a get or a read has as many as its pinned stripes want, and the end of its pass; want of memory in the coding before a step, which is told first, leaves no more
pub record StepsFall (g : Shape) (max tries : ℕ) (job : Job) : Type 0 where
  pub first : call_left g max tries job [] ≤ step_bound g max tries job.note
  pub falls :
      (told : List Told) (answer : Told) → HasTarget g job →
      Answers (pin_bound g max job.note) (touched_count g job.note) (next_act g tries job told) answer →
      call_left g max tries job (tell g job told answer) < call_left g max tries job told
  pub pinned :
      (point length_now : ℕ) (stripes : List Seen) → (job.note.kind ≡ Kind.Get) ⊎ (job.note.kind ≡ Kind.ReadAt) →
      call_left g max tries job (tell g job [] (Told.Pinned point length_now stripes)) ≤ 3 * chunk_count g * length stripes + 1
  pub short : (told : List Told) → call_left g max tries job (tell g job told Told.Short) ≤ call_left g max tries job told

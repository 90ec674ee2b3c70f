-- Which answers end a call, and how: the other direction of the causes of outcomes.
use Rattle.std.specs.Prelude.{◌≡◌, ℕ, ◌≤◌, ◌+◌, ◌*◌, List, [], ◌∷◌, ◌++◌, length, fold, replicate, IsTrue, ⊤}
use Rattle.clay_grid.specs.Shape.{Shape, chunk_count}
use Rattle.store_map.specs.declared.placement.Placement.{Placement}
use Rattle.store_map.specs.declared.reply.Reply.{Reply}
use Rattle.store_map.specs.declared.reply.Reply.TheVariants as reply
use Rattle.store_core.specs.Told.{Told}
use Rattle.store_core.specs.Note.{Note, Kind}
use Rattle.store_core.specs.Act.{Act, DirectoryStep, ServerStep, Outcome}
use Rattle.run_laws.specs.AnswerLaws.{is_on_pass}
use Rattle.run_laws.specs.CauseLaws.{changes_of}
use Rattle.store_core.specs.NextAct.{Job, next_act}
use Rattle.store_core.specs.Tell.{tell}

-- want of memory is heard at each step but a settle, which comes after the commit
abbrev pub HearsShort : Act → Type 0
HearsShort (Act.Finish outcome) = ⊥
HearsShort (Act.AtServer server (ServerStep.Settle version)) = ⊥
HearsShort _ = ⊤

-- a call of a client or of a repairer begins with its look; it has no pass yet
abbrev pub IsLook : Act → Type 0
IsLook (Act.AtDirectory (DirectoryStep.Look note)) = ⊤
IsLook (Act.AtDirectory (DirectoryStep.LookRepair note)) = ⊤
IsLook _ = ⊥

-- for a call of any kind: an answer to the step that the call makes next ends it with this outcome
pub record AnswersEndCalls (g : Shape) (tries : ℕ) (job : Job) : Type 0 where
  -- a look that is answered by a reply of the map, and a repairer's that finds no such stripe
  pub answered :
      (told : List Told) (note : Note) (point : ℕ) (given : Reply) → next_act g tries job told ≡ Act.AtDirectory (DirectoryStep.Look note) →
      next_act g tries job (tell g job told (Told.Answer point given)) ≡ Act.Finish (Outcome.Answered point given)
  pub no_such :
      (told : List Told) (note : Note) → next_act g tries job told ≡ Act.AtDirectory (DirectoryStep.LookRepair note) →
      next_act g tries job (tell g job told Told.NoSuch) ≡ Act.Finish Outcome.NoSuch
  -- a commit, after a settle for each chunk
  pub committed :
      (told : List Told) (placed : List (List Placement)) (point : ℕ) → next_act g tries job told ≡ Act.AtDirectory (DirectoryStep.Commit placed) →
      next_act g tries job (fold (tell g job) (tell g job told (Told.Done point)) (replicate (length placed * chunk_count g) Told.Settled)) ≡
      Act.Finish (Outcome.Answered point reply.Done)
  -- a step on its pass that is told of a reap
  pub reaped :
      (told : List Told) (step : DirectoryStep) (point : ℕ) → next_act g tries job told ≡ Act.AtDirectory step → IsTrue (is_on_pass step) →
      next_act g tries job (tell g job told (Told.Reaped point)) ≡ Act.Finish (Outcome.Reaped point)
  -- a confirm that is told that its version is superseded
  pub superseded :
      (told : List Told) (newer : ℕ) → next_act g tries job told ≡ Act.AtDirectory DirectoryStep.Confirm →
      next_act g tries job (tell g job told (Told.Superseded newer)) ≡ Act.Finish (Outcome.Superseded newer)
  -- the last step of a rebuild
  pub rebuilt :
      (told : List Told) (server epoch : ℕ) → next_act g tries job told ≡ Act.AtDirectory (DirectoryStep.Repaired server epoch) →
      next_act g tries job (tell g job told Told.Ended) ≡ Act.Finish Outcome.Rebuilt
  -- a commit that is told of a change, when all tries are used up
  pub contended :
      (told : List Told) (placed : List (List Placement)) (base newer : ℕ) → job.note.kind ≡ Kind.Write →
      next_act g tries job told ≡ Act.AtDirectory (DirectoryStep.Commit placed) → tries ≤ length (changes_of told) + 1 →
      next_act g tries job (tell g job told (Told.Changed base newer)) ≡ Act.Finish (Outcome.Contended (changes_of told ++ (base, newer) ∷ []))
  -- want of memory: the call is over where it looked, and after any later step its pass ends first
  pub no_memory_at_look : (told : List Told) → IsLook (next_act g tries job told) → next_act g tries job (tell g job told Told.Short) ≡ Act.Finish Outcome.NoMemory
  pub pass_ends_without_memory :
      (told : List Told) → HearsShort (next_act g tries job told) → (IsLook (next_act g tries job told) → ⊥) →
      next_act g tries job (tell g job told Told.Short) ≡ Act.AtDirectory DirectoryStep.End
  pub no_memory :
      (told : List Told) → HearsShort (next_act g tries job told) →
      next_act g tries job (tell g job (tell g job told Told.Short) Told.Ended) ≡ Act.Finish Outcome.NoMemory

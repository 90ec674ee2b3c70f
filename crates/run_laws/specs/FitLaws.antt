-- Which answers a state can be told, and that a call is told no others.
use Rattle.std.specs.Prelude.{◌≡◌, ⊤, ℕ, List, [], ◌∷◌}
use Rattle.clay_grid.specs.Shape.{Shape}
use Rattle.store_core.specs.Told.{Told}
use Rattle.store_core.specs.Note.{Kind}
use Rattle.store_core.specs.Act.{Act, DirectoryStep}
use Rattle.store_core.specs.NextAct.{Job, next_act}
use Rattle.store_core.specs.Tell.{tell}
use Rattle.run_laws.specs.AnswersByKind.{MayWrite}
use Rattle.run_laws.specs.ToldInSteps.{IsToldNext, AreTold}

-- the commit of a put or a write
abbrev pub IsCommit : Act → Type 0
IsCommit (Act.AtDirectory (DirectoryStep.Commit placed)) = ⊤
IsCommit _ = ⊥

-- an answer that can come after an act: only the commit of a put or a write is answered by its point, a write's alone by a change, and no step by a gathering in one entry
abbrev pub Fits : Kind → Act → Told → Type 0
Fits kind act (Told.Done point) = IsCommit act × MayWrite kind
Fits kind act (Told.Changed base newer) = IsCommit act × (kind ≡ Kind.Write)
Fits kind act Told.Gathered = ⊥
Fits kind act _ = ⊤

-- answers one after another, after some that were kept
abbrev pub AreFit : Shape → ℕ → Job → List Told → List Told → Type 0
AreFit g tries job told [] = ⊤
AreFit g tries job told (answer ∷ more) = Fits job.note.kind (next_act g tries job told) answer × AreFit g tries job (tell g job told answer) more

-- what a call can be told next fits its act, and so does all that it is told step by step
pub record AnswersFit : Type 0 where
  pub next :
      (g : Shape) (max tries : ℕ) (job : Job) (told : List Told) (answer : Told) → IsToldNext g max tries job told answer →
      Fits job.note.kind (next_act g tries job told) answer
  pub all : (g : Shape) (max tries : ℕ) (job : Job) (answers : List Told) → AreTold g max tries job answers → AreFit g tries job [] answers

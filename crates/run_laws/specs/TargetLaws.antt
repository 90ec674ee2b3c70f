-- How the answers of its target end a rebuild.
use Rattle.std.specs.Prelude.{◌≡◌, ℕ, List, [], ◌∷◌}
use Rattle.clay_grid.specs.Shape.{Shape}
use Rattle.store_map.specs.declared.placement.Found.TheVariants as found
use Rattle.store_core.specs.Told.{Told, Seen}
use Rattle.store_core.specs.Note.{Kind}
use Rattle.store_core.specs.Act.{Act, DirectoryStep, ServerStep, Outcome}
use Rattle.store_core.specs.NextAct.{Job, next_act}
use Rattle.store_core.specs.Tell.{tell}

-- a target that has its chunk or is away ends the rebuild, when it is asked and when the chunk comes; the pass ends first
pub record TargetsEndRebuilds (g : Shape) (tries : ℕ) (job : Job) : Type 0 where
  -- a target that has its chunk
  pub pass_ends_when_asked :
      (seen : Seen) → job.note.kind ≡ Kind.Rebuild → next_act g tries job (Told.PinnedStripe seen ∷ Told.Here ∷ []) ≡ Act.AtDirectory DirectoryStep.End
  pub here_when_asked :
      (seen : Seen) → job.note.kind ≡ Kind.Rebuild →
      next_act g tries job (Told.PinnedStripe seen ∷ Told.Here ∷ Told.Ended ∷ []) ≡ Act.Finish Outcome.Here
  pub pass_ends_when_it_comes :
      (told : List Told) (server version : ℕ) → next_act g tries job told ≡ Act.AtServer server (ServerStep.Install version) →
      next_act g tries job (tell g job told Told.AlreadyThere) ≡ Act.AtDirectory DirectoryStep.End
  pub here_when_it_comes :
      (told : List Told) (server version : ℕ) → next_act g tries job told ≡ Act.AtServer server (ServerStep.Install version) →
      next_act g tries job (tell g job (tell g job told Told.AlreadyThere) Told.Ended) ≡ Act.Finish Outcome.Here
  -- a target that is away
  pub pass_ends_when_away :
      (seen : Seen) (downs : ℕ) → job.note.kind ≡ Kind.Rebuild →
      next_act g tries job (Told.PinnedStripe seen ∷ Told.Missing (found.Away downs) ∷ []) ≡ Act.AtDirectory DirectoryStep.End
  pub away_when_asked :
      (seen : Seen) (downs : ℕ) → job.note.kind ≡ Kind.Rebuild →
      next_act g tries job (Told.PinnedStripe seen ∷ Told.Missing (found.Away downs) ∷ Told.Ended ∷ []) ≡ Act.Finish (Outcome.Away downs)
  pub pass_ends_when_not_taken :
      (told : List Told) (server version downs : ℕ) → next_act g tries job told ≡ Act.AtServer server (ServerStep.Install version) →
      next_act g tries job (tell g job told (Told.Away downs)) ≡ Act.AtDirectory DirectoryStep.End
  pub away_when_it_comes :
      (told : List Told) (server version downs : ℕ) → next_act g tries job told ≡ Act.AtServer server (ServerStep.Install version) →
      next_act g tries job (tell g job (tell g job told (Told.Away downs)) Told.Ended) ≡ Act.Finish (Outcome.Away downs)

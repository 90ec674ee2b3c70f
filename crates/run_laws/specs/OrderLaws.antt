-- What must come before: no call leaves out one of its steps.
use Rattle.std.specs.Prelude.{◌≡◌, ℕ, ◌⊎◌, List, [], ◌∷◌}
use Rattle.clay_grid.specs.Shape.{Shape}
use Rattle.store_map.specs.declared.placement.Placement.{Placement}
use Rattle.store_map.specs.declared.reply.Reply.{Reply}
use Rattle.store_map.specs.declared.reply.Reply.TheVariants as reply
use Rattle.store_core.specs.Told.{Told}
use Rattle.store_core.specs.Note.{Kind}
use Rattle.store_core.specs.Act.{Act, DirectoryStep, ServerStep, Outcome}
use Rattle.store_core.specs.NextAct.{Job}
use Rattle.run_laws.specs.Orders.{steps_since, ServedInOrder, ConfirmedInOrder, AnsweredByLook}
use Rattle.run_laws.specs.WriteOrders.{LookedInOrder, PreparedInOrder, SettledInOrder}
use Rattle.run_laws.specs.ToldInSteps.{AreTold, act_after}

-- of a call that is told its answers step by step
pub record CallsKeepOrder (g : Shape) (max tries : ℕ) (job : Job) : Type 0 where
  -- with its bytes it ends only after all stripes that its look pinned were gathered
  pub served :
      (answers : List Told) (point : ℕ) → AreTold g max tries job answers → act_after g tries job answers ≡ Act.Finish (Outcome.Served point) →
      ServedInOrder g job point answers
  -- it installs a chunk at its target only, after its version was confirmed, and says that it was placed with the epoch that it was told
  pub installs :
      (answers : List Told) (server version : ℕ) → AreTold g max tries job answers →
      act_after g tries job answers ≡ Act.AtServer server (ServerStep.Install version) →
      (job.note.kind ≡ Kind.Rebuild) × (server ≡ job.target) × ConfirmedInOrder g job version answers []
  pub says_placed :
      (answers : List Told) (server epoch : ℕ) → AreTold g max tries job answers →
      act_after g tries job answers ≡ Act.AtDirectory (DirectoryStep.Repaired server epoch) →
      (job.note.kind ≡ Kind.Rebuild) × (server ≡ job.target) × (version : ℕ) × ConfirmedInOrder g job version answers (Told.Placed epoch ∷ [])
  -- a rebuild that is done confirmed its version, and was told that its chunk was placed and that its pass ended
  pub rebuilt :
      (answers : List Told) → AreTold g max tries job answers → act_after g tries job answers ≡ Act.Finish Outcome.Rebuilt →
      (job.note.kind ≡ Kind.Rebuild) × (version : ℕ) × (epoch : ℕ) × ConfirmedInOrder g job version answers (Told.Placed epoch ∷ Told.Ended ∷ [])
  -- it draws after its look, a write when it has the old bytes that it keeps
  pub draws :
      (answers : List Told) → AreTold g max tries job answers → act_after g tries job answers ≡ Act.AtDirectory DirectoryStep.Draw →
      LookedInOrder g job (steps_since g tries job [] answers)
  -- it commits what it was told by one prepare for each drawn version at each server
  pub commits :
      (answers : List Told) (placed : List (List Placement)) → AreTold g max tries job answers →
      act_after g tries job answers ≡ Act.AtDirectory (DirectoryStep.Commit placed) →
      PreparedInOrder g placed (steps_since g tries job [] answers)
  -- it is answered by its look, or after a commit and a settle for each version at each server
  pub answered :
      (answers : List Told) (point : ℕ) (given : Reply) → AreTold g max tries job answers →
      act_after g tries job answers ≡ Act.Finish (Outcome.Answered point given) →
      AnsweredByLook job point given (steps_since g tries job [] answers)
      ⊎ ((given ≡ reply.Done) × SettledInOrder g point (steps_since g tries job [] answers))

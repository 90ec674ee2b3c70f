-- How a call ends that gathers, once its pass has ended: with its bytes, or because too many servers lack their chunk.
use Rattle.std.specs.Prelude.{◌≡◌, ◌≢◌, ℕ, ◌⊎◌, List, [], ◌∷◌, ◌++◌, map}
use Rattle.clay_grid.specs.Shape.{Shape}
use Rattle.store_core.specs.Told.{Told, Seen, Lost}
use Rattle.store_core.specs.Note.{Note, Kind}
use Rattle.store_core.specs.Act.{Act, Outcome}
use Rattle.store_core.specs.Gathering.{Gathering, Part}
use Rattle.store_core.specs.GatheringParts.{gather_part, gather_chunk}
use Rattle.store_core.specs.Read.{parts_of}
use Rattle.store_core.specs.Write.{old_parts}
use Rattle.store_core.specs.NextAct.{Job, next_act}

-- the parts that a call gathers, by the answer to its look
abbrev pub gathers : Kind → Shape → Note → Told → List Part
gathers Kind.Get g note (Told.Pinned point length stripes) = parts_of g note length stripes
gathers Kind.ReadAt g note (Told.Pinned point length stripes) = parts_of g note length stripes
gathers Kind.Write g note (Told.Ready base length stripes) = old_parts g length stripes
gathers _ g note answer = []

-- the last step, which ends the pass, ends the call too
pub record GatheringsEndCalls (g : Shape) (tries : ℕ) (job : Job) : Type 0 where
  -- all bytes of a get or a read are there
  pub served :
      (point length_now : ℕ) (stripes : List Seen) → (job.note.kind ≡ Kind.Get) ⊎ (job.note.kind ≡ Kind.ReadAt) →
      next_act g tries job (Told.Pinned point length_now stripes ∷ (map (λ _. Told.Gathered) stripes ++ Told.Ended ∷ [])) ≡ Act.Finish (Outcome.Served point)
  -- too many servers lack their chunk of a part; the parts before have their bytes, and of a write some tries were lost before
  pub unavailable :
      (pairs : List (ℕ × ℕ)) (looked : Told) (before after : List Part) (part : Part) (told : List Told) (missing : List Lost) →
      (job.note.kind ≢ Kind.Write → pairs ≡ []) → gathers job.note.kind g job.note looked ≡ before ++ part ∷ after →
      gather_part g part told ≡ Gathering.TooMany missing [] →
      next_act g tries job (map (λ pair. Told.Changed pair.0 pair.1) pairs ++ (looked ∷ (map (λ _. Told.Gathered) before ++ (told ++ Told.Ended ∷ [])))) ≡
      Act.Finish (Outcome.Unavailable part.seen.stripe missing)
  -- the same of the chunk that a rebuild makes
  pub unavailable_chunk :
      (seen : Seen) (told : List Told) (missing : List Lost) → job.note.kind ≡ Kind.Rebuild → gather_chunk g seen job.target told ≡ Gathering.TooMany missing [] →
      next_act g tries job (Told.PinnedStripe seen ∷ (told ++ Told.Ended ∷ [])) ≡ Act.Finish (Outcome.Unavailable seen.stripe missing)

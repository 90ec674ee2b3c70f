-- In which order the steps of a call come that has its bytes, installs a chunk, or was answered by its look.
use Rattle.std.specs.Prelude.{◌≡◌, ℕ, List, [], ◌∷◌, ◌++◌}
use Rattle.clay_grid.specs.Shape.{Shape}
use Rattle.store_map.specs.declared.reply.Reply.{Reply}
use Rattle.store_core.specs.Told.{Seen, Told}
use Rattle.store_core.specs.Act.{Act, DirectoryStep}
use Rattle.store_core.specs.Gathering.{Gathering, Part}
use Rattle.store_core.specs.GatheringParts.{gather_part, gather_chunk}
use Rattle.store_core.specs.Read.{parts_of}
use Rattle.store_core.specs.Tell.{tell}
use Rattle.store_core.specs.NextAct.{Job, next_act}

-- each step that a call makes, with its answer, where some answers are kept from before
abbrev pub steps_since : Shape → ℕ → Job → List Told → List Told → List (Act × Told)
steps_since g tries job told [] = []
steps_since g tries job told (answer ∷ more) = (next_act g tries job told, answer) ∷ steps_since g tries job (tell g job told answer) more

-- parts that were gathered one after another, each by the answers with which its gathering has its bytes
abbrev pub AreGathered : Shape → List Part → List Told → Type 0
AreGathered g [] told = told ≡ []
AreGathered g (part ∷ parts) told =
    (first : List Told) × (rest : List Told) × (told ≡ first ++ rest) × (gather_part g part first ≡ Gathering.HasBytes []) × AreGathered g parts rest

-- a call with its bytes looked, gathered a part of each stripe that its look pinned, and ended its pass
pub record ServedInOrder (g : Shape) (job : Job) (point : ℕ) (answers : List Told) : Type 0 where
  pub length_now : ℕ
  pub stripes : List Seen
  pub gathered : List Told
  pub answers_are : answers ≡ Told.Pinned point length_now stripes ∷ (gathered ++ Told.Ended ∷ [])
  pub each : AreGathered g (parts_of g job.note length_now stripes) gathered

-- a rebuild of this version's chunk looked, gathered what the chunk is made of, and was told that its version is current; and what it was told since
pub record ConfirmedInOrder (g : Shape) (job : Job) (version : ℕ) (answers since : List Told) : Type 0 where
  pub seen : Seen
  pub gathered : List Told
  pub answers_are : answers ≡ Told.PinnedStripe seen ∷ (gathered ++ Told.Current ∷ since)
  pub comes_to : gather_chunk g seen job.target gathered ≡ Gathering.HasBytes []
  pub of_version : seen.version ≡ version

-- the last step is a look that was answered so
pub record AnsweredByLook (job : Job) (point : ℕ) (given : Reply) (steps : List (Act × Told)) : Type 0 where
  pub before : List (Act × Told)
  pub steps_are : steps ≡ before ++ (Act.AtDirectory (DirectoryStep.Look job.note), Told.Answer point given) ∷ []

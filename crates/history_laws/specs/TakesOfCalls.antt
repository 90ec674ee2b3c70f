-- What a call took from each server, by the answers that its steps had.
use Rattle.std.specs.Prelude.{◌≡◌, ℕ, Bool, true, false, List, [], ◌∷◌, length, filter, replicate, sum_by, if◌then◌else◌, ⊤}
use Rattle.clay_grid.specs.Shape.{Shape, chunk_count}
use Rattle.store_map.specs.Limits.{size_of, tries_of}
use Rattle.store_map.specs.declared.script.Script.{Script}
use Rattle.store_core.specs.Act.{Act, ServerStep}
use Rattle.store_core.specs.Gathering.{Part}
use Rattle.store_core.specs.GatheringParts.{chunks_in_range, layers_for}
use Rattle.store_core.specs.Lists.{is_among}
use Rattle.store_core.specs.NextAct.{Job, next_act}
use Rattle.store_core.specs.Step.{take_from}
use Rattle.store_core.specs.Tell.{tell}
use Rattle.store_core.specs.Told.{Told}
use Rattle.store_core.specs.Work.{Ended}
use Rattle.run_laws.specs.ToldInSteps.{AreTold, act_after}

-- what was taken after further answers, where so much was taken and this is kept of the answers before
abbrev pub taken_since : Shape → ℕ → Job → List Told → List ℕ → List Told → List ℕ
taken_since g tries job told takes [] = takes
taken_since g tries job told takes (answer ∷ more) = taken_since g tries job (tell g job told answer) (take_from (next_act g tries job told) answer takes) more

-- what was taken by all answers
abbrev pub taken_by : Shape → ℕ → Job → List Told → List ℕ
taken_by g tries job answers = taken_since g tries job [] (replicate (chunk_count g) 0) answers

-- a server that gives subchunks gives as many as it was asked for
abbrev pub IsExact : Act → Told → Type 0
IsExact (Act.AtServer server (ServerStep.Fetch version layers)) (Told.Given count) = count ≡ length layers
IsExact act answer = ⊤

-- so do further answers
abbrev pub AreExactSince : Shape → ℕ → Job → List Told → List Told → Type 0
AreExactSince g tries job told [] = ⊤
AreExactSince g tries job told (answer ∷ more) = IsExact (next_act g tries job told) answer × AreExactSince g tries job (tell g job told answer) more

-- answers that a call of the script can have, one after another
pub record Log (script : Script) (job : Job) (answers : List Told) : Type 0 where
  pub are_told : AreTold script.geometry (size_of script) (tries_of script) job answers
  pub exact : AreExactSince script.geometry (tries_of script) job [] answers

-- by such answers the call has ended so, and has taken so much
pub record EndedBy (script : Script) (job : Job) (ended : Ended) (answers : List Told) : Type 0 where
  pub log : Log script job answers
  pub ends : act_after script.geometry (tries_of script) job answers ≡ Act.Finish ended.outcome
  pub takes : ended.takes ≡ taken_by script.geometry (tries_of script) job answers

-- how often a call was told that a server lacks its chunk or is away
abbrev pub is_missing : Told → Bool
is_missing (Told.Missing found) = true
is_missing _ = false

abbrev pub missing_count : List Told → ℕ
missing_count answers = length (filter is_missing answers)

-- of these parts, the subchunks of the server's chunks that have a wanted byte
abbrev pub subchunks_met : Shape → List Part → ℕ → ℕ
subchunks_met g parts server =
    sum_by (λ (part : Part). if is_among server (chunks_in_range g part.start part.end) then length (layers_for g part.start part.end server) else 0) parts

-- A gathering that has its bytes was given enough to make them.
use Rattle.std.specs.Prelude.{◌≡◌, ℕ, ◌⊎◌, List, [], ◌∷◌, ◌++◌, length, map}
use Rattle.clay_grid.specs.Shape.{Shape}
use Rattle.clay_grid.specs.Repair.{all_layers, repair_layers_of}
use Rattle.store_core.specs.Told.{Seen, Told}
use Rattle.store_core.specs.Act.{ServerStep}
use Rattle.store_core.specs.Gathering.{Gathering, Part, servers_but}
use Rattle.store_core.specs.GatheringParts.{chunks_in_range, layers_for, gather_part, gather_chunk}
use Rattle.store_core.specs.HeldLaws.{IsRising}

-- the step that a gathering asks for next, with its server, if it asks for one
abbrev pub question_of : Gathering → List (ℕ × ServerStep)
question_of (Gathering.Asks server step) = (server, step) ∷ []
question_of _ = []

-- the steps that a gathering asked for and that were given, after what it was told before, in order
abbrev pub steps_given : (List Told → Gathering) → List Told → List Told → List (ℕ × ServerStep)
steps_given gather before [] = []
steps_given gather before (Told.Given layers ∷ told) = question_of (gather before) ++ steps_given gather (before ++ Told.Given layers ∷ []) told
steps_given gather before (answer ∷ told) = steps_given gather (before ++ answer ∷ []) told

-- these layers of a version's chunks, from these servers
abbrev pub fetches : ℕ → List ℕ → List ℕ → List (ℕ × ServerStep)
fetches version layers servers = map (λ server. (server, ServerStep.Fetch version layers)) servers

-- the last that were given are whole chunks, from as many servers as there are data chunks
pub record GivenWhole (g : Shape) (seen : Seen) (given : List (ℕ × ServerStep)) : Type 0 where
  pub before : List (ℕ × ServerStep)
  pub servers : List ℕ
  pub rising : IsRising servers
  pub count : length servers ≡ g.data_count
  pub given_are : given ≡ before ++ fetches seen.version (all_layers g) servers

-- the repair layers of one server's chunk, from each other server
abbrev pub repairs : Shape → Seen → ℕ → List (ℕ × ServerStep)
repairs g seen lost = fetches seen.version (repair_layers_of g lost) (servers_but g seen (lost ∷ []))

-- the wanted bytes of a part, from these data chunks
abbrev pub bytes_from : Shape → Part → List ℕ → List (ℕ × ServerStep)
bytes_from g part chunks = map (λ chunk. (chunk, ServerStep.Fetch part.seen.version (layers_for g part.start part.end chunk))) chunks

-- the wanted bytes from all but one of these chunks, then the repair layers of that one
pub record GivenBesides (g : Shape) (part : Part) (chunks : List ℕ) (given : List (ℕ × ServerStep)) : Type 0 where
  pub front : List ℕ
  pub lost : ℕ
  pub back : List ℕ
  pub chunks_are : chunks ≡ front ++ lost ∷ back
  pub given_are : given ≡ bytes_from g part (front ++ back) ++ repairs g part.seen lost

-- the bytes of a part: all wanted bytes, whole chunks, or the repair of the one chunk that was missing
abbrev pub GivenPart : Shape → Part → List ℕ → List (ℕ × ServerStep) → Type 0
GivenPart g part chunks given = (given ≡ bytes_from g part chunks) ⊎ (GivenWhole g part.seen given ⊎ GivenBesides g part chunks given)

-- up to the gathering's last answer such steps were given
pub record IsGiven (gather : List Told → Gathering) (Enough : List (ℕ × ServerStep) → Type 0) (told rest : List Told) : Type 0 where
  pub front : List Told
  pub told_is : told ≡ front ++ rest
  pub enough : Enough (steps_given gather [] front)

-- both gatherings; a rebuild's chunk is made of whole chunks, or of its own repair layers
pub record GatheringsAreGiven : Type 0 where
  pub part :
      (g : Shape) (part : Part) (told rest : List Told) → gather_part g part told ≡ Gathering.HasBytes rest →
      IsGiven (gather_part g part) (GivenPart g part (chunks_in_range g part.start part.end)) told rest
  pub chunk :
      (g : Shape) (seen : Seen) (target : ℕ) (told rest : List Told) → gather_chunk g seen target told ≡ Gathering.HasBytes rest →
      IsGiven (gather_chunk g seen target) (λ given. GivenWhole g seen given ⊎ (given ≡ repairs g seen target)) told rest

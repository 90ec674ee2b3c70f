-- How often a call asks servers at most: the bounds on its steps are sums of these.
use Rattle.std.specs.Prelude.{ℕ, ◌+◌, ◌*◌, ◌<◌, List, [], length, ⊤}
use Rattle.clay_grid.specs.Shape.{Shape, chunk_count}
use Rattle.store_core.specs.Lists.{places_of}
use Rattle.store_core.specs.Told.{Seen, Told}
use Rattle.store_core.specs.Act.{Act, ServerStep}
use Rattle.store_core.specs.Gathering.{Gathering, Part}
use Rattle.store_core.specs.GatheringParts.{gather_part, gather_chunk}
use Rattle.store_core.specs.Put.{preparing_all, settling}

-- the gathering asks a server next
abbrev pub IsAsking : Gathering → Type 0
IsAsking (Gathering.Asks server step) = ⊤
IsAsking _ = ⊥

-- the call prepares a chunk next
abbrev pub IsPreparing : Act → Type 0
IsPreparing (Act.AtServer server (ServerStep.Prepare version)) = ⊤
IsPreparing _ = ⊥

-- the call settles a chunk next
abbrev pub IsSettling : Act → Type 0
IsSettling (Act.AtServer server (ServerStep.Settle version)) = ⊤
IsSettling _ = ⊥

-- with n servers: a gathering asks at most 3n times, that of a rebuild at most 3n - 1 times; a call prepares and settles each version n times
pub record AsksFewTimes : Type 0 where
  pub part : (g : Shape) (part : Part) (told : List Told) → IsAsking (gather_part g part told) → length told < 3 * chunk_count g
  pub chunk :
      (g : Shape) (seen : Seen) (target : ℕ) (told : List Told) → target < chunk_count g → IsAsking (gather_chunk g seen target told) →
      length told + 1 < 3 * chunk_count g
  pub prepares :
      (g : Shape) (stripe : ℕ) (versions : List ℕ) (told : List Told) → IsPreparing (preparing_all g stripe versions [] told) →
      length told < length versions * chunk_count g
  pub settles :
      (g : Shape) (point : ℕ) (versions : List ℕ) (told : List Told) → IsSettling (settling point (places_of (chunk_count g) versions) told) →
      length told < length versions * chunk_count g

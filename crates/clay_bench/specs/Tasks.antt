-- What a coder takes for a task.
use Rattle.std.specs.Prelude.{◌≡◌, ℕ, ◌<◌, ⊤, Bool, eqb, List, length, get_or, Option, None, is_none, Vec}
use Rattle.std.specs.declared.alloc.Global.{Global}
use Rattle.clay_grid.specs.Shape.{Shape, chunk_count, chunk_length, stripe_length}
use Rattle.clay_model.specs.Left.{AreLong, AreLeft}
use Rattle.clay_model.specs.RepairParts.{AreParts, part_length}
use Rattle.clay_bench.specs.declared.task.Task.{Task}
use Rattle.clay_bench.specs.declared.task.Task.TheVariants as task

-- a rebuild reads the repair layers alone
abbrev pub piece_length : Task → Shape → ℕ
piece_length task.Rebuild g = part_length g
piece_length _ g = chunk_length g

-- of a rebuild the first chunk is missing
abbrev pub IsGone : Task → ℕ → Bool → Type 0
IsGone task.Rebuild c gone = gone ≡ eqb c 0
IsGone _ c gone = ⊤

-- an entry for each chunk: none for a missing one, and its piece for each other
pub record ArePieces (t : Task) (g : Shape) (pieces : List (Option (Vec ℕ Global))) : Type 0 where
  pub count : length pieces ≡ chunk_count g
  pub gone : (c : ℕ) → c < chunk_count g → IsGone t c (is_none (get_or pieces c None))
  pub lengths : AreLong (piece_length t g) pieces

-- a stripe, chunks of which few enough are missing, or the parts of all chunks but the first
abbrev pub Takes : Task → Shape → List ℕ → List (Option (Vec ℕ Global)) → Type 0
Takes task.Encode g stripe pieces = length stripe ≡ stripe_length g
Takes (task.Recover loss) g stripe pieces = AreLeft g pieces
Takes task.Rebuild g stripe pieces = AreParts g 0 pieces

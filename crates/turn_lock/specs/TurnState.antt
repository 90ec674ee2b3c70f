-- What contracts see of a turn.
use Rattle.std.specs.Prelude.{ℕ, Bool, false, List, [], ◌∷◌, Option, Some}
use Rattle.atomic_table.specs.Seated.{TableId}

-- its lock, that lock's fixed part, its numbers, the history that it has seen, whether it holds the value
pub record TurnState (F E : Type 0) : Type 0 where
  pub lock : TableId
  pub fixed : Option F
  pub numbers : List ℕ
  pub seen : List (ℕ × E)
  pub holds : Bool

-- a turn that was just made
abbrev pub new_turn : {F E : Type 0} → TableId → F → ℕ → TurnState F E
new_turn lock fixed number = record { lock = lock; fixed = Some fixed; numbers = number ∷ []; seen = []; holds = false }

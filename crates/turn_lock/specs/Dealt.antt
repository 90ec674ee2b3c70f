-- The turns of a lock before their first step.
use Rattle.std.specs.Prelude.{◌≡◌, ℕ, false, List, [], ◌∷◌, length, Some}
use Rattle.std.specs.List.{slice_get}
use Rattle.atomic_table.specs.Seated.{TableId}
use Rattle.turn_lock.specs.TurnState.{TurnState, new_turn}

-- a free turn of this lock under this number alone
pub record IsTurnAt {F E : Type 0} (lock : TableId) (identity : F) (n : ℕ) (turn : TurnState F E) : Type 0 where
  pub own : turn.lock ≡ lock
  pub free : turn.holds ≡ false
  pub numbers : turn.numbers ≡ n ∷ []
  pub fixed : turn.fixed ≡ Some identity

-- the turns of the numbers below this one, which have seen nothing
pub record AreTurns {F E : Type 0} (lock : TableId) (identity : F) (count : ℕ) (turns : List (TurnState F E)) : Type 0 where
  pub count_is : length turns ≡ count
  pub each : (k : ℕ) (turn : TurnState F E) → slice_get turns k ≡ Some turn → turn ≡ new_turn lock identity k

-- The turns of several locks before their first step.
use Rattle.std.specs.Prelude.{◌≡◌, ℕ, List, length, Some}
use Rattle.std.specs.List.{slice_get}
use Rattle.atomic_table.specs.Seated.{TableId}
use Rattle.turn_lock.specs.TurnState.{TurnState, new_turn}
use Rattle.turn_lock.specs.Dealt.{AreTurns}

-- what a deal is about: what never changes about the value of each of several locks, these locks, and the number that is dealt
pub record DealOf (F : Type 0) : Type 0 where
  pub identity : ℕ → F
  pub locks : List TableId
  pub number : ℕ

-- at each of several locks those of the numbers below this one
pub record ArePiles {F E : Type 0} (identity : ℕ → F) (locks : List TableId) (count : ℕ) (piles : List (List (TurnState F E))) : Type 0 where
  pub wide : length piles ≡ length locks
  pub each : (j : ℕ) (lock : TableId) (pile : List (TurnState F E)) → slice_get locks j ≡ Some lock → slice_get piles j ≡ Some pile → AreTurns lock (identity j) count pile

-- a turn of this number at each of several locks, which has seen nothing
pub record IsNewRow {F E : Type 0} (identity : ℕ → F) (locks : List TableId) (number : ℕ) (row : List (TurnState F E)) : Type 0 where
  pub wide : length row ≡ length locks
  pub each : (j : ℕ) (lock : TableId) (turn : TurnState F E) → slice_get locks j ≡ Some lock → slice_get row j ≡ Some turn → turn ≡ new_turn lock (identity j) number

-- A turn before it takes a value, while it has it, and after it gave it back.
use Rattle.std.specs.Prelude.{◌≡◌, ℕ, true, false, [], ◌∷◌, ◌++◌, Some}
use Rattle.atomic_table.specs.Seated.{TableId}
use Rattle.turn_lock.specs.History.{Among}
use Rattle.turn_lock.specs.TurnState.{TurnState}

-- a turn of this lock that holds nothing, with this number
pub record IsFree {F E : Type 0} (lock : TableId) (n : ℕ) (turn : TurnState F E) : Type 0 where
  pub own : turn.lock ≡ lock
  pub free : turn.holds ≡ false
  pub number : Among n turn.numbers

-- a turn of this lock that holds the value with this fixed part, with this number
pub record IsHolding {F E : Type 0} (lock : TableId) (n : ℕ) (identity : F) (turn : TurnState F E) : Type 0 where
  pub own : turn.lock ≡ lock
  pub holds : turn.holds ≡ true
  pub number : Among n turn.numbers
  pub fixed : Some identity ≡ turn.fixed

-- the turn after it gave the value back with an entry
abbrev pub gave : {F E : Type 0} → (ℕ × E) → TurnState F E → TurnState F E
gave entry turn = record turn { seen = turn.seen ++ entry ∷ []; holds = false }

-- The values of several locks, taken out of them for good.
use Rattle.std.specs.Prelude.{◌≡◌, ℕ, ◌<◌, List, length, Some}
use Rattle.std.specs.List.{slice_get}
use Rattle.atomic_table.specs.Seated.{TableId}
use Rattle.turn_lock.specs.History.{entries_of}
use Rattle.turn_lock.specs.TurnState.{TurnState}
use Rattle.turn_lock.specs.Dealt.{IsTurnAt}

-- a row of turns for each number, one at each lock
pub record AreRows {F E : Type 0} (identity : ℕ → F) (locks : List TableId) (rows : List (List (TurnState F E))) : Type 0 where
  pub some : 0 < length rows
  pub wide : (n : ℕ) (row : List (TurnState F E)) → slice_get rows n ≡ Some row → length row ≡ length locks
  pub each :
      (n j : ℕ) (row : List (TurnState F E)) (lock : TableId) (turn : TurnState F E) → slice_get rows n ≡ Some row → slice_get locks j ≡ Some lock → slice_get row j ≡ Some turn →
      IsTurnAt lock (identity j) n turn

-- a history of the lock at a place has, of each row's number, the entries that the row's turn there has seen
abbrev pub HasOwnAt : {F E : Type 0} → List (List (TurnState F E)) → ℕ → List (ℕ × E) → Type 0
HasOwnAt {F} {E} rows j log = (n : ℕ) (row : List (TurnState F E)) (turn : TurnState F E) → slice_get rows n ≡ Some row → slice_get row j ≡ Some turn → entries_of n log ≡ entries_of n turn.seen

-- the value at a place stands for a history, which has all entries of the rows
pub record IsOut {T F E : Type 0} (fixed : T → F) (stands : T → List (ℕ × E) → Type 0) (identity : ℕ → F) (rows : List (List (TurnState F E))) (j : ℕ) (value : T) (log : List (ℕ × E)) : Type 0 where
  pub identity_is : fixed value ≡ identity j
  pub stands_is : stands value log
  pub own : HasOwnAt rows j log

-- the values of so many locks stand for histories
pub record AreOut {T F E : Type 0} (fixed : T → F) (stands : T → List (ℕ × E) → Type 0) (identity : ℕ → F) (rows : List (List (TurnState F E))) (count : ℕ) (values : List T) : Type 0 where
  pub wide : length values ≡ count
  pub logs : List (List (ℕ × E))
  pub logged : length logs ≡ count
  pub each : (j : ℕ) (value : T) (log : List (ℕ × E)) → slice_get values j ≡ Some value → slice_get logs j ≡ Some log → IsOut fixed stands identity rows j value log

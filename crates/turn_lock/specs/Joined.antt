-- All turns of a lock, joined.
use Rattle.std.specs.Prelude.{◌≡◌, ℕ, ◌<◌, false, List, length, Some}
use Rattle.std.specs.List.{slice_get}
use mathlib.Core.List.{IsPrefix}
use Rattle.atomic_table.specs.Seated.{TableId}
use Rattle.turn_lock.specs.History.{Among, entries_of}
use Rattle.turn_lock.specs.TurnState.{TurnState}
use Rattle.turn_lock.specs.Dealt.{IsTurnAt}

-- a free turn of each number, in their order
pub record AreAll {F E : Type 0} (lock : TableId) (identity : F) (turns : List (TurnState F E)) : Type 0 where
  pub some : 0 < length turns
  pub each : (n : ℕ) (turn : TurnState F E) → slice_get turns n ≡ Some turn → IsTurnAt lock identity n turn

-- a history has, of each turn's number, the entries that the turn has seen
abbrev pub HasOwn : {F E : Type 0} → List (TurnState F E) → List (ℕ × E) → Type 0
HasOwn {F} {E} turns log = (n : ℕ) (turn : TurnState F E) → slice_get turns n ≡ Some turn → entries_of n log ≡ entries_of n turn.seen

-- and it begins with all that each turn has seen
abbrev pub BeginsWith : {F E : Type 0} → List (TurnState F E) → List (ℕ × E) → Type 0
BeginsWith {F} {E} turns log = (n : ℕ) (turn : TurnState F E) → slice_get turns n ≡ Some turn → IsPrefix turn.seen log

-- it is their whole history
pub record IsWhole {F E : Type 0} (turns : List (TurnState F E)) (log : List (ℕ × E)) : Type 0 where
  pub own : HasOwn turns log
  pub begins : BeginsWith turns log

-- a free turn with all their numbers, which has seen what they had, and of each number the entries that its own turn had seen
pub record IsJoined {F E : Type 0} (lock : TableId) (identity : F) (turns : List (TurnState F E)) (all : TurnState F E) : Type 0 where
  pub own : all.lock ≡ lock
  pub free : all.holds ≡ false
  pub fixed : all.fixed ≡ Some identity
  pub numbers : (n : ℕ) → n < length turns → Among n all.numbers
  pub whole : IsWhole turns all.seen

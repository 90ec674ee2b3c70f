-- The rule of a lock's table, whatever its threads do: there is one history, and each seat knows a part of it.
-- The table has one word, TURN, which is 0 or 1 + the number of the turn that holds the value, and one slot, where the value is while TURN is 0.
use Rattle.std.specs.Prelude.{◌≡◌, ◌≢◌, ℕ, ◌+◌, ◌<◌, ◌≤◌, true, List, [], ◌++◌, Option, Some, length, slice_index}
use mathlib.Core.List.{IsPrefix}
use mathlib.Core.Option.{some}
use lib.ListN.{get_elem?}
use Rattle.atomic_table.specs.Table.{State}
use Rattle.turn_lock.specs.declared.lock_view.View.{View}
use Rattle.turn_lock.specs.History.{Among, entries_of, SameEntries}

module _ {F E : Type 0} where
  -- all numbers of a view, with those that a join has just brought
  abbrev pub all_numbers : View F E → List ℕ
  all_numbers v = v.numbers ++ v.joined

  -- the view is true of a lock with this fixed part and history, which has made so many turns
  pub record Fits (fixed : F) (log : List (ℕ × E)) (made : ℕ) (v : View F E) : Type 0 where
    -- it tells the fixed part, unless it is spent: then it has no numbers, and makes no turns
    pub tells : (n : ℕ) → Among n v.numbers → v.fixed ≡ Some fixed
    pub maker_tells : v.makes ≡ true → v.fixed ≡ Some fixed
    -- what it has seen begins the history, and has all entries of its numbers
    pub seen : IsPrefix v.seen log
    pub owns : SameEntries v.numbers log v.seen
    -- so has what was seen by the seat that was just joined to it
    pub joined_seen : IsPrefix v.joined_seen log
    pub joined_owns : SameEntries v.joined log v.joined_seen
    -- its numbers are those of turns that were made
    pub below : (n : ℕ) → Among n (all_numbers v) → n < made
    -- while it holds the value it has seen the whole history
    pub whole : v.holds ≡ true → v.seen ≡ log

  -- the seat with this number has this view
  abbrev pub HasView : List (View F E) → ℕ → View F E → Type 0
  HasView views seat v = get_elem? views seat ≡ some v

  -- one of the seats holds the value
  abbrev pub SomeHolds : List (View F E) → Type 0
  SomeHolds views = (seat : ℕ) × (v : View F E) × HasView views seat v × (v.holds ≡ true)

  -- the word names this turn
  abbrev pub IsNamed : ℕ → View F E → Type 0
  IsNamed word v = (n : ℕ) × Among n v.numbers × (word ≡ n + 1)

module _ {T F E : Type 0} (fixed_part : T → F) (stands_for : T → List (ℕ × E) → Type 0) where
  -- the slot has a value that stands for the history
  abbrev pub IsHome : F → List (ℕ × E) → List (mathlib.Core.Option.Option (Option T)) → Type 0
  IsHome fixed log homes = (value : T) × (get_elem? homes 0 ≡ some (some (Some value))) × (fixed_part value ≡ fixed) × stands_for value log

  pub record Kept (s : State (Option T) (View F E)) : Type 0 where
    pub fixed : F
    pub log : List (ℕ × E)
    pub made : ℕ
    pub wide : length s.words ≡ 1
    pub each : (seat : ℕ) (v : View F E) → HasView s.views seat v → Fits fixed log made v
    -- no two seats have one number
    pub apart :
        (seat other : ℕ) (v w : View F E) (n : ℕ) → HasView s.views seat v → HasView s.views other w → Among n (all_numbers v) → Among n (all_numbers w) → seat ≡ other
    -- only the first seat makes turns, and it has counted them
    pub maker : (seat : ℕ) (v : View F E) → HasView s.views seat v → v.makes ≡ true → (seat ≡ 0) × (v.made ≡ made)
    -- a number that no turn has yet has no entries
    pub unmade : (n : ℕ) → made ≤ n → entries_of n log ≡ []
    -- the turn that holds is the one that TURN names, and while TURN names one, one holds
    pub holder : (seat : ℕ) (v : View F E) → HasView s.views seat v → v.holds ≡ true → IsNamed (slice_index s.words 0) v
    pub held : slice_index s.words 0 ≢ 0 → SomeHolds s.views
    -- while TURN is 0 the value is in the slot
    pub home : slice_index s.words 0 ≡ 0 → IsHome fixed log s.homes

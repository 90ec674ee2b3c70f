-- What each step of a seat changes and tells.
use Rattle.std.specs.Prelude.{◌≡◌, ◌≢◌, ℕ, ◌+◌, Bool, true, false, List, [], ◌∷◌, ◌++◌, Option, None, Some}
use Rattle.atomic_table.specs.Table.{Me, Step, rest}
use Rattle.atomic_table.specs.declared.shared.Seat.{Seat}
use Rattle.turn_lock.specs.declared.lock_view.View.{View}
use Rattle.turn_lock.specs.History.{with_entry, SameEntries, GoesOn, IsLonger}

module _ {F E : Type 0} where
  -- the seat from which turns are made, after so many
  abbrev pub maker_view : F → ℕ → View F E
  maker_view fixed made = record { fixed = Some fixed; numbers = []; seen = []; holds = false; joined = []; joined_seen = []; makes = true; made = made }

  -- a turn is made: the maker counts it, and the turn gets the next number
  abbrev pub maker_after : View F E → View F E
  maker_after v = record v { made = v.made + 1 }

  abbrev pub turn_view : View F E → View F E
  turn_view v = record { fixed = v.fixed; numbers = v.made ∷ []; seen = []; holds = false; joined = []; joined_seen = []; makes = false; made = 0 }

  -- two turns are joined: one keeps what both know side by side, until its next load; the other is spent
  abbrev pub joined_view : View F E → View F E → View F E
  joined_view v w = record { fixed = v.fixed; numbers = v.numbers; seen = v.seen; holds = false; joined = w.numbers; joined_seen = w.seen; makes = false; made = 0 }

  abbrev pub spent_view : View F E
  spent_view = record { fixed = None; numbers = []; seen = []; holds = false; joined = []; joined_seen = []; makes = false; made = 0 }

  -- after that load
  abbrev pub settled_view : View F E → List (ℕ × E) → View F E
  settled_view v seen = record { fixed = v.fixed; numbers = v.numbers ++ v.joined; seen = seen; holds = false; joined = []; joined_seen = []; makes = v.makes; made = v.made }

  -- a turn takes the value or gives it back
  abbrev pub with_seen : View F E → List (ℕ × E) → Bool → View F E
  with_seen v seen holds = record v { seen = seen; holds = holds }

  -- it is still the same seat of the same table
  abbrev pub IsSameSeat : {S : Type 0} → Seat S (View F E) → Seat S (View F E) → Type 0
  IsSameSeat old new = (new.table_id ≡ old.table_id) × (new.id ≡ old.id)

-- a seat's view and the slot that it holds, if it holds one
abbrev pub SeatState : Type 0 → Type 0 → Type 0 → Type 0
SeatState T F E = Me (Option T) (View F E)

module _ {T F E : Type 0} (fixed_part : T → F) (stands_for : T → List (ℕ × E) → Type 0) where
  -- the value is out with the seat, and stands for the history that the seat has then seen
  abbrev pub Takes : SeatState T F E → SeatState T F E → Type 0
  Takes old new =
      (value : T) × (new.1 ≡ (0, Some value) ∷ old.1) × (new.0 ≡ with_seen old.0 new.0.seen true) × (Some (fixed_part value) ≡ old.0.fixed)
      × stands_for value new.0.seen × GoesOn old.0.numbers old.0.seen new.0.seen

  -- a try: the lock was free and the value is taken, or nothing changes
  abbrev pub Tries : Step (Option T) → SeatState T F E → ℕ → SeatState T F E → Type 0
  Tries step old found new = (found ≡ 0 → Takes old new) × (found ≢ 0 → new ≡ old)

module _ {T F E : Type 0} where
  -- the lock is passed on: the value is home, and stands for the history with the entry
  abbrev pub PassesOn : Option (ℕ × E) → Step (Option T) → SeatState T F E → ℕ → SeatState T F E → Type 0
  PassesOn entry step old stored new = new ≡ (with_seen old.0 (with_entry old.0.seen entry) false, rest old.1)

  -- after a join: the longer of the two histories is seen
  abbrev pub Settles : Step (Option T) → SeatState T F E → ℕ → SeatState T F E → Type 0
  Settles step old found new =
      (new ≡ (settled_view old.0 new.0.seen, old.1)) × IsLonger old.0.seen old.0.joined_seen new.0.seen
      × SameEntries old.0.numbers old.0.seen new.0.seen × SameEntries old.0.joined old.0.joined_seen new.0.seen

-- Histories: lists of entries, each under the number of the turn that added it.
use Rattle.std.specs.Prelude.{◌≡◌, ℕ, ◌==◌, ◌||◌, ◌⊎◌, Bool, true, false, List, [], ◌∷◌, ◌++◌, Option, None, Some, filter}
use mathlib.Core.List.{IsPrefix}

-- whether a number stands in a list
abbrev pub is_among : ℕ → List ℕ → Bool
is_among n [] = false
is_among n (other ∷ numbers) = (n == other) || is_among n numbers

-- it stands there
abbrev pub Among : ℕ → List ℕ → Type 0
Among n numbers = is_among n numbers ≡ true

module _ {E : Type 0} where
  -- whether an entry has this number
  abbrev pub has_number : ℕ → (ℕ × E) → Bool
  has_number n entry = entry.0 == n

  -- the entries of one number, in their order
  abbrev pub entries_of : ℕ → List (ℕ × E) → List (ℕ × E)
  entries_of n log = filter (has_number n) log

  -- the history with one entry more, if one is named
  abbrev pub with_entry : List (ℕ × E) → Option (ℕ × E) → List (ℕ × E)
  with_entry log None = log
  with_entry log (Some entry) = log ++ entry ∷ []

  -- the entry, if one is named, is under one of these numbers
  abbrev pub IsUnder : List ℕ → Option (ℕ × E) → Type 0
  IsUnder numbers None = Unit {0}
  IsUnder numbers (Some entry) = Among entry.0 numbers

  -- two histories have the same entries of each of these numbers
  abbrev pub SameEntries : List ℕ → List (ℕ × E) → List (ℕ × E) → Type 0
  SameEntries numbers seen log = (n : ℕ) → Among n numbers → entries_of n log ≡ entries_of n seen

  -- a history goes on from what was seen of it, and what was added has none of these numbers
  abbrev pub GoesOn : List ℕ → List (ℕ × E) → List (ℕ × E) → Type 0
  GoesOn numbers seen log = IsPrefix seen log × SameEntries numbers seen log

  -- the longer of two histories, which begins with the other
  pub record IsLonger (one other longer : List (ℕ × E)) : Type 0 where
    pub from_one : IsPrefix one longer
    pub from_other : IsPrefix other longer
    pub is_either : (longer ≡ one) ⊎ (longer ≡ other)

-- Which numbers the actors of a set have.
use Rattle.std.specs.Prelude.{ℕ, Bool, false, ◌&&◌, ◌/◌, ◌%◌, nat_eq, List, Option, None, Some, get_or}
use Rattle.std.specs.HashMap.{get}
use Rattle.hist_tables.specs.declared.number_set.NumberSet.{NumberSet}

-- whether the row is there and has the place
abbrev pub row_has : Option (List Bool) → ℕ → Bool
row_has None place = false
row_has (Some row) place = get_or row place false

-- the actor's row of this place, which says of the 64 numbers from 64 times the place on which are there
abbrev pub row_of : NumberSet → ℕ → ℕ → Option (List Bool)
row_of set actor place = get (λ one other. nat_eq one.0 other.0 && nat_eq one.1 other.1) set.rows (actor, place)

-- whether the actor has the number
abbrev pub holds : NumberSet → ℕ → ℕ → Bool
holds set actor number = row_has (row_of set actor (number / 64)) (number % 64)

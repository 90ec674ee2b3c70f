-- What becomes of the rows of versions.
use Rattle.std.specs.Prelude.{◌≡◌, ℕ, ◌+◌, ◌-◌, Bool, true, false, ◌&&◌, not, nat_eq, List, Option, None, Some, option_map, if◌then◌else◌}
use Rattle.std.specs.Bool.{beq}
use Rattle.indexmap.specs.IndexMap.{IndexMap, get, index_map_len}
use Rattle.store_map.specs.declared.placement.Placement.{Placement}
use Rattle.store_core.specs.Lists.{change_at}
use Rattle.store_core.specs.Placements.{placed_anew}
use Rattle.version_table.specs.Counts.{one_if}
use Rattle.version_table.specs.Told.{Entry}
use Rattle.version_table.specs.Rows.{Kept, kept_in, is_superseded, is_garbage}
use Rattle.version_table.specs.declared.told_versions.Standing.{Standing}
use Rattle.version_table.specs.declared.told_versions.Standing.TheVariants as standing
use Rattle.version_table.specs.declared.version_rows.VersionRow.{VersionRow}

-- what the sweeper may take, and what it took
abbrev pub is_free : Kept → Bool
is_free kept = is_superseded kept.standing && nat_eq kept.pins 0

abbrev pub is_taken : Standing → Bool
is_taken standing.Taken = true
is_taken standing.Drawn = false
is_taken standing.Current = false
is_taken standing.Superseded = false
is_taken standing.Swept = false

-- another standing, and a version that became current
abbrev pub kept_standing : Standing → Kept → Kept
kept_standing other kept = record kept { standing = other }

abbrev pub kept_current : List Placement → Kept → Kept
kept_current placed kept = record kept { placed = placed; standing = standing.Current }

-- one pin less, and one more
abbrev pub kept_unpinned : Kept → Kept
kept_unpinned kept = record kept { pins = kept.pins - 1 }

abbrev pub kept_pinned : Kept → Kept
kept_pinned kept = record kept { pins = kept.pins + 1 }

-- the chunk was placed anew at a server
abbrev pub kept_anew : ℕ → ℕ → Kept → Kept
kept_anew server epoch kept = record kept { placed = change_at server (placed_anew epoch) kept.placed }

-- whether a change turns what is no garbage into garbage, or the other way round
abbrev pub turned_kept : (Kept → Kept) → Option Kept → Bool
turned_kept f None = false
turned_kept f (Some kept) = not (beq (is_free (f kept)) (is_free kept))

abbrev pub turned : (Entry → Entry) → Option Entry → Bool
turned f None = false
turned f (Some entry) = not (beq (is_garbage (f entry)) (is_garbage entry))

-- the row with a number, if there is one, is changed
pub record Alters {S : Type 0} (f : Kept → Kept) (number : ℕ) (old new : IndexMap ℕ VersionRow S) : Type 0 where
  pub here : option_map kept_in (get nat_eq new number) ≡ option_map f (option_map kept_in (get nat_eq old number))
  pub others : (other : ℕ) → nat_eq number other ≡ false → get nat_eq new other ≡ get nat_eq old other
  pub len : index_map_len new ≡ index_map_len old

-- there is one row more
pub record Adds {S : Type 0} (number : ℕ) (row : VersionRow) (old new : IndexMap ℕ VersionRow S) : Type 0 where
  pub here : get nat_eq new number ≡ Some row
  pub others : (other : ℕ) → nat_eq number other ≡ false → get nat_eq new other ≡ get nat_eq old other
  pub len : index_map_len new ≡ index_map_len old + 1

-- whether a row is of a version that was taken
abbrev pub is_taken_in : Option VersionRow → Bool
is_taken_in None = false
is_taken_in (Some row) = is_taken row.standing

-- a row goes where its version was taken
pub record Sweeps {S : Type 0} (number : ℕ) (old new : IndexMap ℕ VersionRow S) : Type 0 where
  pub here : get nat_eq new number ≡ (if is_taken_in (get nat_eq old number) then None else get nat_eq old number)
  pub others : (other : ℕ) → nat_eq number other ≡ false → get nat_eq new other ≡ get nat_eq old other
  pub len : index_map_len new + one_if (is_taken_in (get nat_eq old number)) ≡ index_map_len old

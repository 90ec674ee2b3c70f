-- What is kept of the versions that aren't swept, beside what is told of all.
use Rattle.std.specs.Prelude.{◌≡◌, ℕ, ◌-◌, ◌^◌, min, Bool, true, false, ◌&&◌, nat_eq, List, length, Option, None, Some, option_map, if◌then◌else◌}
use Rattle.std.specs.Option.{option_and_then}
use Rattle.std.specs.List.{slice_get, count_by}
use Rattle.indexmap.specs.IndexMap.{IndexMap, get, spare, index_map_len}
use Rattle.store_map.specs.declared.placement.Placement.{Placement}
use Rattle.version_table.specs.Told.{Entry}
use Rattle.version_table.specs.declared.told_versions.Standing.{Standing}
use Rattle.version_table.specs.declared.told_versions.Standing.TheVariants as standing
use Rattle.version_table.specs.declared.version_rows.VersionRow.{VersionRow}
use Rattle.version_table.specs.declared.version_rows.Rows.TheInside.{Inside}

-- what is told of every version, and how many more fit without memory
pub record RowsOf : Type 0 where
  pub entries : List Entry
  pub room : ℕ

-- what is kept of a version
pub record Kept : Type 0 where
  pub placed : List Placement
  pub standing : Standing
  pub pins : ℕ

abbrev pub kept_in : VersionRow → Kept
kept_in row = record { placed = row.placed.items; standing = row.standing; pins = row.pins }

-- superseded and not taken yet
abbrev pub is_superseded : Standing → Bool
is_superseded standing.Superseded = true
is_superseded standing.Drawn = false
is_superseded standing.Current = false
is_superseded standing.Taken = false
is_superseded standing.Swept = false

abbrev pub is_unswept : Standing → Bool
is_unswept standing.Swept = false
is_unswept standing.Drawn = true
is_unswept standing.Current = true
is_unswept standing.Superseded = true
is_unswept standing.Taken = true

-- what the sweeper may take
abbrev pub is_garbage : Entry → Bool
is_garbage entry = is_superseded entry.standing && nat_eq entry.pins 0

-- of a version that isn't swept
abbrev pub kept_of : Entry → Option Kept
kept_of e = if is_unswept e.standing then Some (record { placed = e.placed; standing = e.standing; pins = e.pins }) else None

-- of the version with a number
abbrev pub kept_at : List Entry → ℕ → Option Kept
kept_at entries number = option_and_then kept_of (slice_get entries number)

-- how many aren't swept
abbrev pub unswept_count : List Entry → ℕ
unswept_count entries = count_by (λ e. is_unswept e.standing) entries

-- the versions are counted, and with each number stands what is kept of its version, where it isn't swept
pub record AreKept {S : Type 0} (told : List Entry) (total : ℕ) (rows : IndexMap ℕ VersionRow S) : Type 0 where
  pub count : total ≡ length told
  pub kept : (number : ℕ) → option_map kept_in (get nat_eq rows number) ≡ kept_at told number
  pub size : index_map_len rows ≡ unswept_count told

abbrev pub IsRows : Inside → Type 0
IsRows a = AreKept a.told a.count a.rows

abbrev pub rows_in : Inside → RowsOf
rows_in a = record { entries = a.told; room = min (spare a.rows) (2 ^ 64 - 1 - a.count) }

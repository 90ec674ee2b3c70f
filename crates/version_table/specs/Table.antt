-- The versions and the counts of their pins, as the fields keep them.
use Rattle.std.specs.Prelude.{ℕ, ◌≤◌, ◌-◌, min, List, map}
use Rattle.std.specs.List.Sorted.{IsPermutation}
use Rattle.std.specs.BinaryHeap.{heap_items, heap_capacity, IsHeap}
use Rattle.std.specs.Ordering.{nat_cmp}
use Rattle.std.specs.declared.cmp.Ordering.{Ordering}
use Rattle.std.specs.declared.cmp.Reverse.{Reverse}
use Rattle.store_core.specs.Directory.{Version}
use Rattle.store_core.specs.Directory.{Standing as CoreStanding}
use Rattle.version_table.specs.Places.{places}
use Rattle.version_table.specs.Told.{Entry}
use Rattle.version_table.specs.Rows.{is_garbage, unswept_count}
use Rattle.version_table.specs.declared.told_versions.Standing.{Standing}
use Rattle.version_table.specs.declared.told_versions.Standing.TheVariants as standing
use Rattle.version_table.specs.declared.versions.Versions.TheInside.{Inside}

-- every version, how often passes that aren't reaped pin it, and how many more fit without memory
pub record Table : Type 0 where
  pub listed : List Version
  pub pins : List ℕ
  pub room : ℕ

-- a standing in the words of the definitions
abbrev pub standing_in : Standing → CoreStanding
standing_in standing.Drawn = CoreStanding.Drawn
standing_in standing.Current = CoreStanding.Current
standing_in standing.Superseded = CoreStanding.Superseded
standing_in standing.Taken = CoreStanding.Taken
standing_in standing.Swept = CoreStanding.Swept

-- what is known of a version
abbrev pub version_in : Entry → Version
version_in entry =
    record { actor = entry.actor; number = entry.number; stripe = entry.stripe; base = entry.base; placed = entry.placed; standing = standing_in entry.standing }

-- versions by their entries, and how often each is pinned
abbrev pub versions_in : List Entry → List Version
versions_in entries = map version_in entries

abbrev pub pins_in : List Entry → List ℕ
pins_in entries = map (λ entry. entry.pins) entries

abbrev pub table_in : Inside → Table
table_in a =
    record {
      listed = versions_in a.rows.entries;
      pins = pins_in a.rows.entries;
      room = min a.rows.room (heap_capacity a.garbage - unswept_count a.rows.entries);
    }

-- the places of the garbage
abbrev pub garbage_in : List Entry → List ℕ
garbage_in entries = places is_garbage 0 entries

-- a number in the heap
abbrev pub number_in : Reverse ℕ → ℕ
number_in kept = kept.0

-- the order of the heap: the least number first
abbrev pub least_first : Reverse ℕ → Reverse ℕ → Ordering
least_first x y = nat_cmp y.0 x.0

-- the heap holds the places of the garbage, and has room for all versions that aren't swept
pub record IsTable (a : Inside) : Type 0 where
  pub room : unswept_count a.rows.entries ≤ heap_capacity a.garbage
  pub heap : IsHeap least_first (heap_items a.garbage)
  pub garbage : IsPermutation (map number_in (heap_items a.garbage)) (garbage_in a.rows.entries)

-- What is told of every version that ever was, which contracts alone keep.
use Rattle.std.specs.Prelude.{ℕ, zero, suc, ◌-◌, ◌+◌, List, [], Option}
use Rattle.store_map.specs.declared.actor.Actor.{Actor}
use Rattle.store_map.specs.declared.placement.Placement.{Placement}
use Rattle.store_map.specs.declared.placement.Placement.TheVariants as placement
use Rattle.store_core.specs.Lists.{change_at}
use Rattle.store_core.specs.Placements.{placed_anew}
use Rattle.dir_parts.specs.Codec.{Codec, number, both, as_other, many, optional}
use Rattle.version_table.specs.declared.told_versions.Standing.{Standing}
use Rattle.version_table.specs.declared.told_versions.Standing.TheVariants as standing
use Rattle.version_table.specs.declared.told_versions.Change.{Change}
use Rattle.version_table.specs.declared.told_versions.Change.TheVariants as change
use Rattle.version_table.specs.declared.told_versions.ToldVersions.TheInside.{Inside}
use Rattle.dir_parts.specs.ToldActors.{an_actor}

-- a version, with the number of passes that pin it and aren't reaped
pub record Entry : Type 0 where
  pub actor : Actor
  pub number : ℕ
  pub stripe : ℕ
  pub base : Option ℕ
  pub placed : List Placement
  pub standing : Standing
  pub pins : ℕ

-- one that was just drawn
abbrev pub entry_drawn : Actor → ℕ → ℕ → Option ℕ → Entry
entry_drawn who number stripe base =
    record { actor = who; number = number; stripe = stripe; base = base; placed = []; standing = standing.Drawn; pins = 0 }

-- only what was taken can be swept
abbrev pub swept : Standing → Standing
swept standing.Taken = standing.Swept
swept other = other

-- an entry of another standing, one that became current with these placements of its chunks, and one that is swept where it was taken
abbrev pub entry_standing : Standing → Entry → Entry
entry_standing other entry = record entry { standing = other }

abbrev pub entry_current : List Placement → Entry → Entry
entry_current row entry = record entry { placed = row; standing = standing.Current }

abbrev pub entry_swept : Entry → Entry
entry_swept entry = record entry { standing = swept entry.standing }

-- with one pin less, and with one more
abbrev pub entry_unpinned : Entry → Entry
entry_unpinned entry = record entry { pins = entry.pins - 1 }

abbrev pub entry_pinned : Entry → Entry
entry_pinned entry = record entry { pins = entry.pins + 1 }

-- where its chunk was placed anew at a server
abbrev pub entry_anew : ℕ → ℕ → Entry → Entry
entry_anew server epoch entry = record entry { placed = change_at server (placed_anew epoch) entry.placed }

abbrev pub changed : Change → Entry → Entry
changed (change.Standing other) = entry_standing other
changed (change.Current row) = entry_current row.now
changed change.Swept = entry_swept
changed change.Unpinned = entry_unpinned
changed change.Pinned = entry_pinned
changed (change.PlacedAnew server epoch) = entry_anew server epoch

abbrev pub placement_to : Placement → ℕ × ℕ
placement_to (placement.At epoch) = (0, epoch)
placement_to (placement.Skipped downs) = (1, downs)

abbrev pub placement_by : ℕ → ℕ → Placement
placement_by zero n = placement.At n
placement_by (suc kind) n = placement.Skipped n

abbrev pub placement_from : ℕ × ℕ → Placement
placement_from p = placement_by p.0 p.1

abbrev pub a_placement : Codec Placement
a_placement = as_other (both number number) placement_to placement_from

abbrev pub standing_to : Standing → ℕ
standing_to standing.Drawn = 0
standing_to standing.Current = 1
standing_to standing.Superseded = 2
standing_to standing.Taken = 3
standing_to standing.Swept = 4

abbrev pub standing_from : ℕ → Standing
standing_from zero = standing.Drawn
standing_from (suc zero) = standing.Current
standing_from (suc (suc zero)) = standing.Superseded
standing_from (suc (suc (suc zero))) = standing.Taken
standing_from (suc (suc (suc (suc n)))) = standing.Swept

abbrev pub a_standing : Codec Standing
a_standing = as_other number standing_to standing_from

abbrev pub Fields : Type 0
Fields = (Actor × ℕ) × ((ℕ × Option ℕ) × (List Placement × (Standing × ℕ)))

abbrev pub entry_to : Entry → Fields
entry_to e = ((e.actor, e.number), ((e.stripe, e.base), (e.placed, (e.standing, e.pins))))

abbrev pub entry_from : Fields → Entry
entry_from f =
    record { actor = f.0.0; number = f.0.1; stripe = f.1.0.0; base = f.1.0.1; placed = f.1.1.0; standing = f.1.1.1.0; pins = f.1.1.1.1 }

abbrev pub an_entry : Codec Entry
an_entry = as_other (both (both an_actor number) (both (both number optional) (both (many a_placement) (both a_standing number)))) entry_to entry_from

-- the numbers that entries are kept as, and the entries that numbers stand for
unfoldable pub numbers_of : List Entry → List ℕ
numbers_of entries = (many an_entry).write entries

unfoldable pub entries_of : List ℕ → List Entry
entries_of numbers = ((many an_entry).read numbers).0

abbrev pub entries_in : Inside → List Entry
entries_in a = entries_of a.tag.numbers

-- The objects by the entries of their map, whose births keep the order of creation.
use Rattle.std.specs.Prelude.{ℕ, ◌-◌, ◌^◌, ◌<◌, min, List, [], ◌∷◌, map, All, bytes_eq, nat_eq, nat_lt, if◌then◌else◌}
use Rattle.std.specs.List.{IsDistinct}
use Rattle.indexmap.specs.IndexMap.{spare, IsUnique}
use Rattle.store_core.specs.Directory.{Object}
use Rattle.dir_parts.specs.Parts.{Shelf, Held, object_of}
use Rattle.dir_parts.specs.declared.objects.Objects.TheInside.{Inside}

abbrev pub object_in : List ℕ × Held → Object
object_in entry = object_of entry.0 entry.1

abbrev pub birth_of : List ℕ × Held → ℕ
birth_of entry = entry.1.birth

-- an entry before the first that was born later
abbrev pub insert_by_birth : List ℕ × Held → List (List ℕ × Held) → List (List ℕ × Held)
insert_by_birth entry [] = entry ∷ []
insert_by_birth entry (other ∷ others) =
    if nat_lt (birth_of entry) (birth_of other) then entry ∷ other ∷ others else other ∷ insert_by_birth entry others

-- the entries in the order of their births
abbrev pub by_birth : List (List ℕ × Held) → List (List ℕ × Held)
by_birth [] = []
by_birth (entry ∷ entries) = insert_by_birth entry (by_birth entries)

-- there is room for an object where its entry and its birth fit
abbrev pub shelf_in : Inside → Shelf
shelf_in a = record { objects = map object_in (by_birth a.listed.entries); room = min (spare a.listed) (2 ^ 64 - 1 - a.births) }

-- no name and no birth stands twice, and those to come are greater
pub record IsShelf (a : Inside) : Type 0 where
  pub names : IsUnique bytes_eq a.listed
  pub births : IsDistinct nat_eq (map birth_of a.listed.entries)
  pub later : All (λ birth. birth < a.births) (map birth_of a.listed.entries)

-- Versions by the stripes of the object in which they stand, and what becomes of one.
use Rattle.std.specs.Prelude.{◌≡◌, ℕ, ◌+◌, ◌/◌, ◌<◌, ◌≤◌, List, Some, slice_get}
use Rattle.clay_grid.specs.Shape.{stripe_length}
use Rattle.store_map.specs.declared.placement.Placement.{Placement}
use Rattle.store_core.specs.Note.{Note}
use Rattle.store_core.specs.Directory.{Object, Standing, Version, Directory}
use Rattle.store_core.specs.Lookups.{find_object}

-- the version stands for a stripe of the object with this name: the object's list has it in the stripe's place
pub record StandsFor (d : Directory) (name : List ℕ) (stripe version : ℕ) : Type 0 where
  pub object : Object
  pub found : find_object name d.objects ≡ Some object
  pub at : slice_get object.versions stripe ≡ Some version

-- the stripe holds one of the bytes that the call writes
pub record IsWritten (d : Directory) (note : Note) (stripe : ℕ) : Type 0 where
  pub byte : ℕ
  pub from : note.offset ≤ byte
  pub before : byte < note.offset + note.length
  pub there : byte / stripe_length d.shape ≡ stripe

-- a version, before and after: what changes in it
pub record Becomes (before after : List Version) (number : ℕ) (change : Version → Version) : Type 0 where
  pub version : Version
  pub was : slice_get before number ≡ Some version
  pub is : slice_get after number ≡ Some (change version)

-- nothing changes in it, or there is none before and after
abbrev pub Stays : List Version → List Version → ℕ → Type 0
Stays before after number = slice_get after number ≡ slice_get before number

-- it is current, with this row of placements
abbrev pub placed_with : List Placement → Version → Version
placed_with row version = record version { placed = row; standing = Standing.Current }

-- it is superseded
abbrev pub superseded : Version → Version
superseded version = record version { standing = Standing.Superseded }

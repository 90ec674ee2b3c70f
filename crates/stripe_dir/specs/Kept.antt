-- A directory by its fields, and what it keeps.
use Rattle.std.specs.Prelude.{◌≡◌, ℕ, ◌<◌, ◌≤◌, length, get_or, All, Contains}
use Rattle.clay_grid.specs.Shape.{stripe_length}
use Rattle.store_core.specs.Directory.{Directory}
use Rattle.version_table.specs.Counts.{pins_by, points_due, objects_due}
use Rattle.stripe_stamps.specs.Sealed.{Sealed, keeps_points}
use Rattle.stripe_stamps.specs.ItsStripes.{IsWhole}
use Rattle.stripe_stamps.specs.Stamped.{HasStamps}
use Rattle.stripe_dir.specs.declared.directory.Directory.TheInside.{Inside}

abbrev pub directory_in : Inside → Directory
directory_in a =
    record {
      shape = a.geometry;
      max = a.max;
      objects = a.objects.objects;
      versions = a.versions.listed;
      passes = a.passes.listed;
      points = a.history.points;
    }

abbrev pub sealed_in : Inside → Sealed
sealed_in a = record { core = directory_in a; book = a.stamps.book; stamps = a.stamps.listed }

-- the lists are sound, the stamps are those of the versions, the counts are those of the passes, there is room for what passes may still add, and the points are kept where the book has a script, and nowhere else
pub record IsKept (a : Inside) : Type 0 where
  pub stripes : 0 < stripe_length a.geometry
  pub desk : a.passes.stripe_len ≡ stripe_length a.geometry
  pub whole : IsWhole (directory_in a)
  pub stamps : HasStamps (sealed_in a)
  pub counted : length a.versions.pins ≡ length a.versions.listed
  pub pins : (version : ℕ) → get_or a.versions.pins version 0 ≡ pins_by version a.passes.listed
  pub named : All (λ pass. Contains a.history.names pass.note.name) a.passes.listed
  pub points_room : points_due a.passes.listed ≤ a.history.room
  pub objects_room : objects_due a.passes.listed ≤ a.objects.room
  pub keeps : a.history.keeps ≡ keeps_points (sealed_in a)

-- The directory's objects and its history, each with its room.
use Rattle.std.specs.Prelude.{ℕ, Bool, ◌+◌, ◌<◌, ◌≤◌, max, List, [], ◌++◌, length, take, drop, unwrap_or, Contains}
use Rattle.store_map.specs.declared.actor.Actor.{Actor}
use Rattle.store_core.specs.Note.{Note}
use Rattle.store_core.specs.Directory.{Object, Point, Event}
use Rattle.store_core.specs.Lookups.{find_object}
use Rattle.store_core.specs.Commit.{put_object}

-- the objects in order of creation, and how many more fit without memory
pub record Shelf : Type 0 where
  pub objects : List Object
  pub room : ℕ

-- the points, the names that they may have, whether the points are kept when it runs, and how many more of them fit without memory
pub record PointLog : Type 0 where
  pub points : List Point
  pub names : List (List ℕ)
  pub keeps : Bool
  pub room : ℕ

-- a point of an actor's call with this number
abbrev pub point_by : Actor → ℕ → Note → Event → Point
point_by who number note event = record { actor = who; number = number; note = note; event = event }

-- each name is there still
abbrev pub KeepsNames : List (List ℕ) → List (List ℕ) → Type 0
KeepsNames old new = (other : List ℕ) → Contains old other → Contains new other

-- an object but for its name, and how many objects had been created before it
pub record Held : Type 0 where
  pub length : ℕ
  pub versions : List ℕ
  pub birth : ℕ

abbrev pub object_of : List ℕ → Held → Object
object_of name held = record { name = name; length = held.length; versions = held.versions }

-- the object with a name, or one without bytes
abbrev pub object_or_new : List ℕ → List Object → Object
object_or_new name objects = unwrap_or (find_object name objects) (record { name = name; length = 0; versions = [] })

-- the versions of the object with a name, none where there is no object
abbrev pub versions_under : List ℕ → List Object → List ℕ
versions_under name objects = (object_or_new name objects).versions

-- the objects, one put under its name
abbrev pub put_under : List ℕ → ℕ → List ℕ → List Object → List Object
put_under name length versions objects = put_object (record { name = name; length = length; versions = versions }) objects

-- there is room for versions that stand from a first place on, if there are any
abbrev pub FitsFrom : ℕ → List ℕ → ℕ → Type 0
FitsFrom first drawn room = 0 < length drawn → first + length drawn ≤ room

-- the versions that drawn ones replace from the first place on
abbrev pub overwritten : ℕ → List ℕ → List ℕ → List ℕ
overwritten first drawn versions = take (length drawn) (drop first versions)

-- the versions, with drawn ones in their places from the first one on
abbrev pub written_over : ℕ → List ℕ → List ℕ → List ℕ
written_over first drawn versions = take first versions ++ drawn ++ drop (first + length drawn) versions

-- an object that a write was made to
abbrev pub written_by : ℕ → ℕ → List ℕ → Held → Held
written_by end first drawn held = record { length = max held.length end; versions = written_over first drawn held.versions; birth = held.birth }

abbrev pub written_object : ℕ → ℕ → List ℕ → Object → Object
written_object end first drawn object =
    record { name = object.name; length = max object.length end; versions = written_over first drawn object.versions }

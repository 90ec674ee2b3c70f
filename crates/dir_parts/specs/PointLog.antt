-- The history by its entries and its names.
use Rattle.std.specs.Prelude.{◌≡◌, ℕ, ◌-◌, ◌^◌, ◌<◌, min, List, [], length, map, get_or, Vec, Option, None, Some, option_map, is_some, IfSome, All, bytes_eq, vec_len, vec_capacity}
use Rattle.std.specs.declared.alloc.Global.{Global}
use Rattle.std.specs.List.{slice_get}
use Rattle.indexmap.specs.IndexMap.{keys, IsUnique}
use Rattle.store_map.specs.declared.actor.Actor.{Actor}
use Rattle.store_core.specs.Directory.{Point, Event as CoreEvent}
use Rattle.store_core.specs.Lookups.{last_change}
use Rattle.dir_parts.specs.Parts.{PointLog}
use Rattle.dir_parts.specs.Events.{event_in}
use Rattle.dir_parts.specs.Passes.{kind_in}
use Rattle.dir_parts.specs.declared.history.PointRow.{PointRow}
use Rattle.dir_parts.specs.declared.history.PointEntry.{PointEntry}
use Rattle.dir_parts.specs.declared.history.History.TheInside.{Inside}

-- a point, by the names
abbrev pub point_in : List (List ℕ) → PointRow → Point
point_in names entry =
    record {
      actor = entry.actor;
      number = entry.number;
      note = record { kind = kind_in entry.kind; name = get_or names entry.name []; offset = entry.offset; length = entry.length };
      event = event_in entry.event;
    }

-- what is told of a point
abbrev pub told_of : PointEntry → Actor × ℕ × CoreEvent
told_of entry = (entry.actor, entry.number, event_in entry.event)

-- the same of the point with a number, if there is one
abbrev pub told_at : List Point → ℕ → Option (Actor × ℕ × CoreEvent)
told_at points number = option_map (λ entry. (entry.actor, entry.number, entry.event)) (slice_get points number)

-- what is given of a point that is kept
abbrev pub entry_of : PointRow → PointEntry
entry_of row = record { actor = row.actor; number = row.number; event = row.event }

-- how many more points fit where they are kept; where they aren't, no point wants room
abbrev pub spare_in : Option (Vec PointRow Global) → ℕ
spare_in None = 2 ^ 64
spare_in (Some rows) = vec_capacity rows - vec_len rows

-- after one of them
abbrev pub spare_after : Option (Vec PointRow Global) → ℕ
spare_after None = 2 ^ 64
spare_after (Some rows) = vec_capacity rows - vec_len rows - 1

abbrev pub log_in : Inside → PointLog
log_in a =
    record {
      points = map (point_in (keys a.names)) a.told;
      names = keys a.names;
      keeps = is_some a.kept;
      room = min (2 ^ 64 - 1 - a.count) (spare_in a.kept);
    }

-- the points are counted, and kept where any are; the names differ, each point has one, and with each name stands the last change of its object
pub record IsPointLog (a : Inside) : Type 0 where
  pub count : a.count ≡ length a.told
  pub kept : IfSome a.kept (λ rows. rows.items ≡ a.told)
  pub unique : IsUnique bytes_eq a.names
  pub named : All (λ entry. entry.name < length (keys a.names)) a.told
  pub last : All (λ entry. entry.1 ≡ last_change entry.0 (map (point_in (keys a.names)) a.told)) a.names.entries

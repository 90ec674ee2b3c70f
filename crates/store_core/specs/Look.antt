-- What looks and later steps read and change in a directory: the stripes that a call means, pins, points, passes, standings, objects.
use Rattle.std.specs.Prelude.{ℕ, ◌+◌, ◌*◌, ◌-◌, ◌/◌, Bool, ◌||◌, nat_lt, min, List, [], ◌∷◌, ◌++◌, length, get_or, map, filter, fold, Option, None, Some, bytes_eq, if◌then◌else◌}
use Rattle.std.specs.List.{range_with_len, slice_get}
use Rattle.clay_grid.specs.Shape.{Shape, stripe_length}
use Rattle.store_map.specs.Limits.{stripes_met}
use Rattle.store_map.specs.declared.actor.Actor.{Actor}
use Rattle.store_map.specs.declared.placement.Placement.{Placement}
use Rattle.store_core.specs.Lists.{change_at}
use Rattle.store_core.specs.Told.{Seen}
use Rattle.store_core.specs.Note.{Note, Kind}
use Rattle.store_core.specs.Read.{read_start, read_end}
use Rattle.store_core.specs.Directory.{Object, Standing, Version, Pin, Event, Directory}

-- the stripes that meet the bytes from start up to end
abbrev pub stripes_between : Shape → ℕ → ℕ → List ℕ
stripes_between g start end = range_with_len (start / stripe_length g) (stripes_met (stripe_length g) start (end - start))

-- whether a stripe holds an old byte outside the bytes from start up to end that are written
abbrev pub keeps_old : Shape → ℕ → ℕ → ℕ → ℕ → Bool
keeps_old g length start end stripe =
    nat_lt (stripe * stripe_length g) (min start length) || nat_lt end (min ((stripe + 1) * stripe_length g) length)

-- the stripes of an object of some length that a call pins, rising
abbrev pub pinned_by : Kind → Shape → Note → ℕ → List ℕ
pinned_by Kind.Get g note length = stripes_between g (read_start note) (read_end note length)
pinned_by Kind.ReadAt g note length = stripes_between g (read_start note) (read_end note length)
pinned_by Kind.Write g note length =
    filter (keeps_old g length note.offset (note.offset + note.length)) (stripes_between g note.offset (note.offset + note.length))
pinned_by _ g note length = []

-- how each server took a version's chunk
abbrev pub placed_of : Option Version → List Placement
placed_of None = []
placed_of (Some version) = version.placed

-- a stripe of an object as a look tells it
abbrev pub seen_at : Directory → Object → ℕ → Seen
seen_at d object stripe =
    let version : ℕ = get_or object.versions stripe 0 in
    record { stripe = stripe; version = version; placed = placed_of (slice_get d.versions version) }

-- what a pass keeps of it
abbrev pub pin_of : Seen → Pin
pin_of seen = record { stripe = seen.stripe; version = seen.version }

-- the history with one more point
abbrev pub append_point : Actor → ℕ → Note → Event → Directory → Directory
append_point who number note event d = record d { points = d.points ++ record { actor = who; number = number; note = note; event = event } ∷ [] }

-- the passes with one more, which has drawn nothing
abbrev pub begin_pass : Actor → ℕ → Note → List Seen → Option ℕ → Directory → Directory
begin_pass who number note seen base d =
    record d { passes = record { actor = who; number = number; note = note; pinned = map pin_of seen; drawn = []; base = base; reaped = None } ∷ d.passes }

-- the versions, some of them with this standing
abbrev pub set_standing : Standing → List ℕ → List Version → List Version
set_standing standing numbers versions = fold (λ vs number. change_at number (λ version. record version { standing = standing }) vs) versions numbers

-- the objects without the one with this name
abbrev pub remove_object : List ℕ → List Object → List Object
remove_object name [] = []
remove_object name (object ∷ objects) = if bytes_eq name object.name then objects else object ∷ remove_object name objects

-- the object is removed, and its versions are superseded
abbrev pub without_object : Object → Directory → Directory
without_object object d = record d { objects = remove_object object.name d.objects; versions = set_standing Standing.Superseded object.versions d.versions }

-- What a look leaves where its pass begins.
use Rattle.std.specs.Prelude.{ℕ, Bool, true, false, List, [], ◌∷◌, ◌++◌, map, Option, None, if◌then◌else◌}
use Rattle.store_map.specs.declared.actor.Actor.{Actor}
use Rattle.store_map.specs.declared.reply.Reply.TheVariants as reply
use Rattle.store_core.specs.Told.{Told, Seen}
use Rattle.store_core.specs.Note.{Note, Kind}
use Rattle.store_core.specs.Directory.{Pass, Event, Point, Directory}
use Rattle.store_core.specs.Looks.{accept}
use Rattle.store_core.specs.Look.{pin_of, seen_at, begin_pass, append_point, without_object}
use Rattle.dir_parts.specs.Parts.{object_or_new}

-- a get and a read have a point at their look
abbrev pub has_point : Kind → Bool
has_point Kind.Get = true
has_point Kind.ReadAt = true
has_point _ = false

-- the points that a look appends whose pass begins
abbrev pub looked : Actor → ℕ → Note → List Point
looked who number note = if has_point note.kind then record { actor = who; number = number; note = note; event = Event.Pinned } ∷ [] else []

-- the stripes that it pins, as it tells them
abbrev pub seen_in_object : Directory → Note → List ℕ → List Seen
seen_in_object d note stripes = map (seen_at d (object_or_new note.name d.objects)) stripes

-- the pass
abbrev pub begun_pass : Actor → ℕ → Note → List Seen → Option ℕ → Pass
begun_pass who number note seen base =
    record { actor = who; number = number; note = note; pinned = map pin_of seen; drawn = []; base = base; reaped = None }

-- the directory then
abbrev pub begun_in : Actor → ℕ → Note → List ℕ → Option ℕ → Directory → Directory
begun_in who number note stripes base d =
    begin_pass who number note (seen_in_object d note stripes) base (record d { points = d.points ++ looked who number note })

-- what a look that the map doesn't refuse leaves and tells
abbrev pub accepted : Actor → ℕ → Note → Directory → Directory × Told
accepted who number note d = accept who number note d note.kind (object_or_new note.name d.objects)

-- nothing where memory is wanting
abbrev pub or_short : Bool → Directory → Directory × Told → Directory × Told
or_short true d made = (d, Told.Short)
or_short false d made = made

-- the directory after a delete whose object was there
abbrev pub deleted : Actor → ℕ → Note → Directory → Directory
deleted who number note d =
    append_point who number note (Event.Answer reply.Done) (without_object (object_or_new note.name d.objects) d)

-- the kinds of a client's call whose look begins a pass, where the map doesn't refuse it
abbrev pub begins_pass : Kind → Bool
begins_pass Kind.Put = true
begins_pass Kind.Write = true
begins_pass Kind.Get = true
begins_pass Kind.ReadAt = true
begins_pass _ = false

-- a write's base is the last change of its object
abbrev pub base_by : Kind → Option ℕ → Option ℕ
base_by Kind.Write last = last
base_by _ last = None

-- What a look is answered, and what it leaves in the directory.
use Rattle.std.specs.Prelude.{ℕ, nat_lt, List, [], ◌∷◌, length, map, Option, None, Some, option_map, unwrap_or, if◌then◌else◌}
use Rattle.store_map.specs.declared.actor.Actor.{Actor}
use Rattle.store_map.specs.declared.reply.Reply.{Reply}
use Rattle.store_map.specs.declared.reply.Reply.TheVariants as reply
use Rattle.store_core.specs.Told.{Told, Seen}
use Rattle.store_core.specs.Note.{Note, Kind, refusal}
use Rattle.store_core.specs.Directory.{Object, Event, Directory}
use Rattle.store_core.specs.Lookups.{find_object, last_change}
use Rattle.store_core.specs.Look.{pinned_by, seen_at, append_point, begin_pass, without_object}

module _ (who : Actor) (number : ℕ) (note : Note) (d : Directory) where
  -- the call ends with this reply, at a new point
  abbrev pub answer : Reply → Directory → Directory × Told
  answer reply changed = (append_point who number note (Event.Answer reply) changed, Told.Answer (length d.points) reply)

  -- a get or a read begins, at a new point
  abbrev pub pin : ℕ → List Seen → Directory × Told
  pin length_now seen =
      (begin_pass who number note seen None (append_point who number note Event.Pinned d), Told.Pinned (length d.points) length_now seen)

  -- a put or a write begins; it has no point yet
  abbrev pub ready : Option ℕ → ℕ → List Seen → Directory × Told
  ready base length_now seen = (begin_pass who number note seen base d, Told.Ready base length_now seen)

  -- the stripes of an object that the call pins
  abbrev pub seen_of : Object → List Seen
  seen_of object = map (seen_at d object) (pinned_by note.kind d.shape note object.length)

  -- a call that the map doesn't refuse; of a put the object may be a new one
  abbrev pub accept : Kind → Object → Directory × Told
  accept Kind.Put object = ready None object.length []
  accept Kind.Write object = ready (last_change note.name d.points) object.length (seen_of object)
  accept Kind.Stat object = answer (reply.Length object.length) d
  accept Kind.Delete object = answer reply.Done (without_object object d)
  accept _ object = pin object.length (seen_of object)

  -- an object that isn't there yet
  abbrev pub new_object : Object
  new_object = record { name = note.name; length = 0; versions = [] }

  -- by the object that was found, and the reply where the map refuses
  abbrev pub look_by : Option Object → Option Reply → Directory × Told
  look_by found (Some refused) = answer refused d
  look_by found None = accept note.kind (unwrap_or found new_object)

  -- a reply where the map refuses the call, and to a stat and a delete; otherwise a pass begins
  abbrev pub look : Directory × Told
  look =
      let found : Option Object = find_object note.name d.objects in
      look_by found (refusal d.max note (option_map (λ object. object.length) found))

  -- a repairer's look pins the stripe, if it is there, and appends no point
  abbrev pub look_repair_by : Option Object → Directory × Told
  look_repair_by None = (d, Told.NoSuch)
  look_repair_by (Some object) =
      let seen : Seen = seen_at d object note.offset in
      if nat_lt note.offset (length object.versions) then (begin_pass who number note (seen ∷ []) None d, Told.PinnedStripe seen)
      else (d, Told.NoSuch)

  -- a rebuild's look
  abbrev pub look_repair : Directory × Told
  look_repair = look_repair_by (find_object note.name d.objects)

-- Snapshots: one may be open.
use Rattle.std.specs.Prelude.{ℕ, ◌+◌, min, nat_lt, List, [], length, Option, None, Some, unwrap_or, if◌then◌else◌}
use Rattle.clay_grid.specs.Shape.{Shape}
use Rattle.store_map.specs.PlainMap.{bytes_of, read_at}
use Rattle.store_map.specs.declared.reply.Reply.{Reply}
use Rattle.store_map.specs.declared.reply.Reply.TheVariants as reply
use Rattle.session_rules.specs.State.{Snapshot, State, numbers_of}
use Rattle.session_rules.specs.declared.session_answer.Answer.{Answer}
use Rattle.session_rules.specs.Gathered.{ranges_between, first_unavailable}

-- how many objects a snapshot may have
abbrev pub most_objects : ℕ
most_objects = 64

-- one is taken where none is open, unless there are too many objects
abbrev pub snap : Option Snapshot → State → State × Answer
snap (Some kept) s = (s, Answer.SnapOpen)
snap None s =
    if nat_lt most_objects (length s.objects) then (s, Answer.TooMany (length s.objects))
    else (record s { snapshot = Some (record { objects = s.objects; numbers = s.numbers; stripes = s.stripes }) }, Answer.Replied reply.Done)

-- the map's reply, unless bytes are unavailable
abbrev pub reply_unless : Option Answer → Reply → Answer
reply_unless None answer = Answer.Replied answer
reply_unless (Some unavailable) answer = unavailable

-- a read of the snapshot's map: which chunks are held counts as of now, at which epochs they were placed as of its taking
abbrev pub snap_read : Shape → List ℕ → ℕ → ℕ → Option Snapshot → State → State × Answer
snap_read g name offset count None s = (s, Answer.NoSnap)
snap_read g name offset count (Some kept) s =
    let found : Option (List ℕ) = bytes_of name kept.objects in
    let end : ℕ = min (offset + count) (length (unwrap_or found [])) in
    (s, reply_unless (first_unavailable g s kept.stripes (numbers_of name kept.numbers) (ranges_between g offset end)) (read_at offset count found))

-- the snapshot is dropped
abbrev pub snap_drop : Option Snapshot → State → State × Answer
snap_drop None s = (s, Answer.NoSnap)
snap_drop (Some kept) s = (record s { snapshot = None }, Answer.Replied reply.Done)

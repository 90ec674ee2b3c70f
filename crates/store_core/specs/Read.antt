-- What a get, a read or a stat does next.
use Rattle.std.specs.Prelude.{ℕ, ◌+◌, ◌*◌, ◌-◌, min, List, [], ◌∷◌, map}
use Rattle.clay_grid.specs.Shape.{Shape, stripe_length}
use Rattle.store_core.specs.Told.{Seen, Told}
use Rattle.store_core.specs.Note.{Note, Kind}
use Rattle.store_core.specs.Act.{Act, DirectoryStep, Outcome}
use Rattle.store_core.specs.Gathering.{Part}
use Rattle.store_core.specs.GatheringParts.{ending, gathering}

-- where the bytes begin and end that a get or a read is answered, of an object of some length
abbrev pub read_start : Note → ℕ
read_start note = note.offset

-- a get is answered all bytes, a read at most as many as it asks for
abbrev pub read_end_by : Kind → ℕ → ℕ → ℕ → ℕ
read_end_by Kind.Get offset count length = length
read_end_by _ offset count length = min (offset + count) length

-- the same for a call that is known by its note
abbrev pub read_end : Note → ℕ → ℕ
read_end note length = read_end_by note.kind note.offset note.length length

-- of the bytes from start up to end of an object, those that stand in a stripe, counted from the stripe's start
abbrev pub part_of : Shape → ℕ → ℕ → Seen → Part
part_of g start end seen =
    record {
      seen = seen;
      start = start - seen.stripe * stripe_length g;
      end = min (end - seen.stripe * stripe_length g) (stripe_length g);
    }

-- what a get or a read gathers, stripe by stripe
abbrev pub parts_of : Shape → Note → ℕ → List Seen → List Part
parts_of g note length stripes = map (part_of g (read_start note) (read_end note length)) stripes

-- the pinned stripes are gathered one after another; then the pass ends, and the call has its bytes
abbrev pub next_read : Shape → Note → List Told → Act
next_read g note [] = Act.AtDirectory (DirectoryStep.Look note)
next_read g note (Told.Answer point answer ∷ told) = Act.Finish (Outcome.Answered point answer)
next_read g note (Told.Pinned point length stripes ∷ told) =
    gathering g (parts_of g note length stripes) (ending (Outcome.Served point)) told
next_read g note (_ ∷ told) = Act.Finish Outcome.NoMemory

-- a stat, and a delete too: the look's answer is the call's
abbrev pub next_single : Note → List Told → Act
next_single note [] = Act.AtDirectory (DirectoryStep.Look note)
next_single note (Told.Answer point answer ∷ told) = Act.Finish (Outcome.Answered point answer)
next_single note (_ ∷ told) = Act.Finish Outcome.NoMemory

-- The old bytes that a write keeps of the stripes that it touches, and the bytes of its new ones.
use Rattle.std.specs.Prelude.{ℕ, ◌+◌, ◌-◌, ◌*◌, ◌/◌, nat_eq, min, List, take, drop, Some, if◌then◌else◌}
use Rattle.clay_grid.specs.Shape.{Shape, stripe_length}
use Rattle.clay_model.specs.Code.{padded}
use Rattle.store_map.specs.declared.call.Call.{Call}
use Rattle.store_core.specs.Note.{Note, note_of}
use Rattle.store_core.specs.Look.{keeps_old}
use Rattle.store_core.specs.Content.{written_by, lay_over}

-- how many it keeps of a stripe of an object of some size, where the bytes from start up to end are written: those that the object has there, or none where all of them are written
abbrev pub kept_count : Shape → ℕ → ℕ → ℕ → ℕ → ℕ
kept_count g size start end stripe =
    if keeps_old g size start end stripe then min (stripe_length g) (size - stripe * stripe_length g) else 0

-- where they begin among all that it keeps: behind those of the first stripe that it touches
abbrev pub kept_from : Shape → ℕ → ℕ → ℕ → ℕ → ℕ
kept_from g size start end stripe =
    if nat_eq stripe (start / stripe_length g) then 0 else kept_count g size start end (start / stripe_length g)

-- the old bytes of a stripe, out of all that it keeps, and zeros
abbrev pub old_in : Shape → ℕ → ℕ → ℕ → List ℕ → ℕ → List ℕ
old_in g size start end kept stripe =
    padded (stripe_length g) (take (kept_count g size start end stripe) (drop (kept_from g size start end stripe) kept))

-- of a call that is known by its note
abbrev pub old_of : Shape → Note → ℕ → List ℕ → ℕ → List ℕ
old_of g note size kept stripe = old_in g size note.offset (note.offset + note.length) kept stripe

-- the written bytes over them
abbrev pub new_of : Shape → Call → ℕ → List ℕ → ℕ → List ℕ
new_of g written size kept stripe =
    lay_over g stripe (old_of g (note_of written) size kept stripe) (written_by (Some written)).0 (written_by (Some written)).1

-- How many stripes a range of bytes meets.
use Rattle.std.proofs.Common.{◌≡◌, ℕ, ◌+◌, ◌-◌, ◌/◌, length, ap, ◌∙◌, arith}
use Rattle.std.proofs.lemmas.List.FromFn.{length-range_with_len}
use Rattle.clay_grid.specs.Shape.{Shape, stripe_length}
use Rattle.store_map.specs.Limits.{stripes_met}
use Rattle.store_core.specs.Note.{Note}
use Rattle.store_core.specs.Look.{stripes_between}

-- ---- the stripes that a call pins
pub count_between : (g : Shape) (start end : ℕ) → length (stripes_between g start end) ≡ stripes_met (stripe_length g) start (end - start)
count_between g start end = length-range_with_len (start / stripe_length g) (stripes_met (stripe_length g) start (end - start))

-- the same length again
pub in_range : (start n : ℕ) → start + n - start ≡ n
in_range start n = omega arith

-- a draw takes a version for each stripe that is touched
pub count_touched : (g : Shape) (note : Note) → length (stripes_between g note.offset (note.offset + note.length)) ≡ stripes_met (stripe_length g) note.offset note.length
count_touched g note =
    count_between g note.offset (note.offset + note.length) ∙ ap (stripes_met (stripe_length g) note.offset) (in_range note.offset note.length)

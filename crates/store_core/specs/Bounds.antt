-- How many steps a call makes at most.
use Rattle.std.specs.Prelude.{ℕ, ◌+◌, ◌*◌, ◌-◌, min}
use Rattle.clay_grid.specs.Shape.{Shape, chunk_count, stripe_length}
use Rattle.store_map.specs.Limits.{stripes_met}
use Rattle.store_core.specs.Note.{Note, Kind}

-- the stripes that a put or a write touches
abbrev pub touched_count : Shape → Note → ℕ
touched_count g note = stripes_met (stripe_length g) note.offset note.length

-- the most stripes that a get or a read reads of an object of at most max bytes: a get all bytes, a read those that it asks for and that may be there
abbrev pub read_count : Kind → Shape → ℕ → Note → ℕ
read_count Kind.Get g max note = stripes_met (stripe_length g) 0 max
read_count Kind.ReadAt g max note = stripes_met (stripe_length g) note.offset (min note.length (max - note.offset))
read_count _ g max note = touched_count g note

-- by the kind of call, with n servers, s touched and r read stripes
abbrev pub bound_by : Kind → ℕ → ℕ → ℕ → ℕ → ℕ
bound_by Kind.Put n tries s r = 2 * n * s + 3
bound_by Kind.Write n tries s r = tries * (6 * n + n * s + 3) + n * s + 1
bound_by Kind.Get n tries s r = 3 * n * r + 2
bound_by Kind.ReadAt n tries s r = 3 * n * r + 2
bound_by Kind.Stat n tries s r = 1
bound_by Kind.Delete n tries s r = 1
bound_by Kind.Rebuild n tries s r = 3 * n + 3

-- the steps of a call at most
abbrev pub step_bound : Shape → ℕ → ℕ → Note → ℕ
step_bound g max tries note = bound_by note.kind (chunk_count g) tries (touched_count g note) (read_count note.kind g max note)

-- how many versions a call draws at most
abbrev pub draws_by : Kind → ℕ → ℕ → ℕ
draws_by Kind.Put tries s = s
draws_by Kind.Write tries s = tries * s
draws_by _ tries s = 0

-- the versions of a call at most
abbrev pub draw_bound : Shape → ℕ → Note → ℕ
draw_bound g tries note = draws_by note.kind tries (touched_count g note)

-- the sweeper's steps for one version
abbrev pub sweep_bound : Shape → ℕ
sweep_bound g = chunk_count g + 2

-- How many steps a call of any kind has left at most.
use Rattle.std.specs.Prelude.{ℕ, List}
use Rattle.clay_grid.specs.Shape.{Shape}
use Rattle.store_core.specs.Told.{Told}
use Rattle.store_core.specs.Note.{Note, Kind}
use Rattle.store_core.specs.Bounds.{touched_count, read_count}
use Rattle.store_core.specs.NextAct.{Job}
use Rattle.run_laws.specs.StepsLeft.{put_left, single_left}
use Rattle.run_laws.specs.GatheringLeft.{read_left, write_left}
use Rattle.run_laws.specs.RebuildLeft.{rebuild_left}

-- the stripes that one look pins at most; a write keeps old bytes of two stripes at most, its first and its last
abbrev pub pins_by : Kind → Shape → ℕ → Note → ℕ
pins_by Kind.Write g max note = 2
pins_by kind g max note = read_count kind g max note

-- the same for a call that is known by its note
abbrev pub pin_bound : Shape → ℕ → Note → ℕ
pin_bound g max note = pins_by note.kind g max note

-- by the kind of call, with so many tries and so many stripes that are pinned
abbrev pub left_by : Kind → Shape → ℕ → ℕ → Job → List Told → ℕ
left_by Kind.Put g tries pins job told = put_left g (touched_count g job.note) told
left_by Kind.Write g tries pins job told = write_left g (touched_count g job.note) tries told
left_by Kind.Get g tries pins job told = read_left g pins job.note told
left_by Kind.ReadAt g tries pins job told = read_left g pins job.note told
left_by Kind.Stat g tries pins job told = single_left told
left_by Kind.Delete g tries pins job told = single_left told
left_by Kind.Rebuild g tries pins job told = rebuild_left g job.target told

-- the steps that a call has left by what it was told, where an object has at most max bytes
abbrev pub call_left : Shape → ℕ → ℕ → Job → List Told → ℕ
call_left g max tries job told = left_by job.note.kind g tries (pin_bound g max job.note) job told

-- What a call does next, by what its steps were told so far.
use Rattle.std.specs.Prelude.{ℕ, List}
use Rattle.clay_grid.specs.Shape.{Shape}
use Rattle.store_map.specs.declared.call.Call.{Call}
use Rattle.store_map.specs.declared.call.Rebuild.{Rebuild as RebuildCall}
use Rattle.store_core.specs.Told.{Told}
use Rattle.store_core.specs.Note.{Note, Kind, note_of, note_of_rebuild}
use Rattle.store_core.specs.Act.{Act}
use Rattle.store_core.specs.Put.{next_put}
use Rattle.store_core.specs.Read.{next_read, next_single}
use Rattle.store_core.specs.Write.{next_write}
use Rattle.store_core.specs.Rebuild.{next_rebuild}

-- a call of a client or of a repairer, as its machine knows it: its note, and of a rebuild the server whose chunk is made
pub record Job : Type 0 where
  pub note : Note
  pub target : ℕ

-- a client's job
abbrev pub job_of : Call → Job
job_of call = record { note = note_of call; target = 0 }

-- a repairer's job
abbrev pub rebuild_job : RebuildCall → Job
rebuild_job rebuild = record { note = note_of_rebuild rebuild; target = rebuild.server }

-- by the kind of call
abbrev pub next_by : Kind → Shape → ℕ → Job → List Told → Act
next_by Kind.Put g tries job told = next_put g job.note told
next_by Kind.Write g tries job told = next_write g tries job.note told
next_by Kind.Get g tries job told = next_read g job.note told
next_by Kind.ReadAt g tries job told = next_read g job.note told
next_by Kind.Stat g tries job told = next_single job.note told
next_by Kind.Delete g tries job told = next_single job.note told
next_by Kind.Rebuild g tries job told = next_rebuild g job.note job.target told

-- the act of a call, where a write has so many tries
abbrev pub next_act : Shape → ℕ → Job → List Told → Act
next_act g tries job told = next_by job.note.kind g tries job told

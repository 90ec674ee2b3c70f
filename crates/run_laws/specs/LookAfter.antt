-- The state of a call after its look, or after what is kept of a commit or a change.
use Rattle.std.specs.Prelude.{ℕ}
use Rattle.clay_grid.specs.Shape.{Shape}
use Rattle.store_map.specs.declared.call.Call.{Call}
use Rattle.store_core.specs.Told.{Told}
use Rattle.store_core.specs.Note.{Note, Kind, note_of}
use Rattle.store_core.specs.Act.{Outcome}
use Rattle.store_core.specs.NextAct.{Job, job_of}
use Rattle.store_core.specs.Read.{parts_of}
use Rattle.store_core.specs.Write.{old_parts}
use Rattle.run_laws.specs.State.{Sequel, State}
use Rattle.run_laws.specs.States.{parts_state, open_state}

-- the look of a stat or a delete
abbrev pub single_after_look : Told → State
single_after_look (Told.Answer point answer) = State.Finished (Outcome.Answered point answer)
single_after_look _ = State.Finished Outcome.NoMemory

-- of a rebuild
abbrev pub rebuild_after_look : ℕ → Told → State
rebuild_after_look target Told.NoSuch = State.Finished Outcome.NoSuch
rebuild_after_look target (Told.PinnedStripe seen) = State.Chunk seen target
rebuild_after_look target _ = State.Finished Outcome.NoMemory

-- of a put; after a commit its versions are what it is told first
abbrev pub put_after_look : Told → State
put_after_look (Told.Answer point answer) = State.Finished (Outcome.Answered point answer)
put_after_look (Told.Ready base length stripes) = State.Drawing
put_after_look (Told.Versions versions) = State.Committed versions
put_after_look _ = State.Finished Outcome.NoMemory

module _ (g : Shape) where
  -- of a get or a read
  abbrev pub read_after_look : Note → Told → State
  read_after_look note (Told.Answer point answer) = State.Finished (Outcome.Answered point answer)
  read_after_look note (Told.Pinned point length stripes) = parts_state (parts_of g note length stripes) (Sequel.Serve point)
  read_after_look note _ = State.Finished Outcome.NoMemory

  -- of a write
  abbrev pub write_after_look : Told → State
  write_after_look (Told.Changed base newer) = State.Start
  write_after_look (Told.Answer point answer) = State.Finished (Outcome.Answered point answer)
  write_after_look (Told.Ready base length stripes) = parts_state (old_parts g length stripes) Sequel.Draw
  write_after_look (Told.Versions versions) = State.Committed versions
  write_after_look _ = State.Finished Outcome.NoMemory

  -- by the kind
  abbrev pub start_after : Kind → Job → Told → State
  start_after Kind.Put job answer = put_after_look answer
  start_after Kind.Write job answer = write_after_look answer
  start_after Kind.Get job answer = read_after_look job.note answer
  start_after Kind.ReadAt job answer = read_after_look job.note answer
  start_after Kind.Stat job answer = single_after_look answer
  start_after Kind.Delete job answer = single_after_look answer
  start_after Kind.Rebuild job answer = rebuild_after_look job.target answer

-- where a client's call stands after its look
abbrev pub looked_state : Shape → Call → Told → State
looked_state g call answer = open_state g (start_after g (note_of call).kind (job_of call) answer)

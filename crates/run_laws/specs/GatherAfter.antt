-- The state of a call that gathers or makes a chunk anew, after one answer more.
use Rattle.std.specs.Prelude.{ℕ, List, [], ◌∷◌}
use Rattle.clay_grid.specs.Shape.{Shape}
use Rattle.store_core.specs.Told.{Seen, Told}
use Rattle.store_core.specs.Note.{Note}
use Rattle.store_core.specs.Act.{Outcome}
use Rattle.store_core.specs.Gathering.{Part}
use Rattle.run_laws.specs.Stage.{Aim, Asking, Stage, seen_of}
use Rattle.run_laws.specs.Stages.{first_stage}
use Rattle.run_laws.specs.StageAfter.{stage_after}
use Rattle.run_laws.specs.State.{Sequel, State}
use Rattle.run_laws.specs.States.{parts_state, stage_state}
use Rattle.run_laws.specs.WriteAfter.{drawing_after}

-- the pass ends
abbrev pub ending_after : Outcome → Told → State
ending_after outcome Told.Ended = State.Finished outcome
ending_after outcome (Told.Reaped point) = State.Finished (Outcome.Reaped point)
ending_after outcome _ = State.Ending Outcome.NoMemory

-- a rebuild's version is confirmed
abbrev pub confirming_after : Seen → ℕ → Told → State
confirming_after seen target Told.Current = State.Installing seen target
confirming_after seen target (Told.Superseded newer) = State.Finished (Outcome.Superseded newer)
confirming_after seen target (Told.Reaped point) = State.Finished (Outcome.Reaped point)
confirming_after seen target _ = State.Ending Outcome.NoMemory

-- its chunk is installed
abbrev pub installing_after : ℕ → Told → State
installing_after target (Told.Placed epoch) = State.Placing target epoch
installing_after target Told.AlreadyThere = State.Ending Outcome.Here
installing_after target (Told.Away downs) = State.Ending (Outcome.Away downs)
installing_after target _ = State.Ending Outcome.NoMemory

module _ (g : Shape) where
  -- what follows the last gathering
  abbrev pub sequel_after : Note → Sequel → Told → State
  sequel_after note (Sequel.Serve point) answer = ending_after (Outcome.Served point) answer
  sequel_after note Sequel.Draw answer = drawing_after g note answer
  sequel_after note (Sequel.Confirm seen target) answer = confirming_after seen target answer

  -- a gathering that was told nothing before, which may have its bytes without a question
  abbrev pub first_after : State → Aim → List Part → Sequel → Stage → Told → State
  first_after bytes aim parts after (Stage.Asks asking) answer = stage_state (parts_state parts after) aim parts after (stage_after g aim asking answer)
  first_after bytes aim parts after Stage.HasBytes answer = bytes
  first_after bytes aim parts after (Stage.TooMany missing) answer = ending_after (Outcome.Unavailable (seen_of aim).stripe missing) answer
  first_after bytes aim parts after Stage.AtTarget answer = ending_after Outcome.Here answer
  first_after bytes aim parts after (Stage.TargetAway downs) answer = ending_after (Outcome.Away downs) answer
  first_after bytes aim parts after Stage.Short answer = ending_after Outcome.NoMemory answer

  -- the gatherings of some parts; one that has its bytes may be told in one entry
  abbrev pub parts_after : Note → List Part → Sequel → Told → State
  parts_after note [] after answer = sequel_after note after answer
  parts_after note (part ∷ parts) after Told.Gathered = parts_state parts after
  parts_after note (part ∷ parts) after answer = first_after (parts_after note parts after answer) (Aim.Range part) parts after (first_stage g (Aim.Range part)) answer

  -- that of a chunk
  abbrev pub chunk_after : Seen → ℕ → Told → State
  chunk_after seen target Told.Gathered = State.Confirming seen target
  chunk_after seen target answer =
      stage_state (State.Confirming seen target) (Aim.Chunk seen target) [] (Sequel.Confirm seen target) (stage_after g (Aim.Chunk seen target) (Asking.Target target) answer)

-- Memory that was wanting in a coding leaves a call no pins.
use Rattle.std.proofs.Common.{ℕ, List, [], ◌∷◌, None, IsTrue, sym, true≢false}
use Rattle.clay_grid.specs.Shape.{Shape}
use Rattle.store_core.specs.ActPlace.{is_in_pass}
use Rattle.store_core.specs.Gathering.{Part}
use Rattle.store_core.specs.NextAct.{Job}
use Rattle.store_core.specs.Note.{Note, Kind}
use Rattle.store_core.specs.Told.{Told}
use Rattle.run_laws.specs.Stage.{Aim, Asking, Stage}
use Rattle.run_laws.specs.Stages.{first_stage}
use Rattle.run_laws.specs.StageAfter.{stage_after}
use Rattle.run_laws.specs.State.{Sequel, State}
use Rattle.run_laws.specs.States.{parts_state, stage_state}
use Rattle.run_laws.specs.GatherAfter.{first_after, parts_after}
use Rattle.run_laws.specs.CallLaws.{next_call_from}
use Rattle.run_laws.specs.StateActs.{act_at}
use Rattle.call_machine.proofs.Moves.{Keeps, open_kept, next_kept}

-- ---- want of memory
short_stage : (g : Shape) (bytes : State) (aim : Aim) (parts : List Part) (after : Sequel) (asking : Asking) → Keeps None (stage_state bytes aim parts after (stage_after g aim asking Told.Short))
short_stage g bytes aim parts after (Asking.Fetch server more missing) = tt
short_stage g bytes aim parts after (Asking.Look server more missing) = tt
short_stage g bytes aim parts after (Asking.Repair server more lost) = tt
short_stage g bytes aim parts after (Asking.Whole server more wanted missing) = tt
short_stage g bytes aim parts after (Asking.Target server) = tt

short_first : (g : Shape) (bytes : State) (aim : Aim) (parts : List Part) (after : Sequel) (s : Stage) → Keeps None bytes → Keeps None (first_after g bytes aim parts after s Told.Short)
short_first g bytes aim parts after (Stage.Asks asking) b = short_stage g (parts_state parts after) aim parts after asking
short_first g bytes aim parts after Stage.HasBytes b = b
short_first g bytes aim parts after (Stage.TooMany missing) b = tt
short_first g bytes aim parts after Stage.AtTarget b = tt
short_first g bytes aim parts after (Stage.TargetAway downs) b = tt
short_first g bytes aim parts after Stage.Short b = tt

short_parts : (g : Shape) (note : Note) (parts : List Part) (after : Sequel) → Keeps None (parts_after g note parts after Told.Short)
short_parts g note [] (Sequel.Serve point) = tt
short_parts g note [] Sequel.Draw = tt
short_parts g note [] (Sequel.Confirm seen target) = tt
short_parts g note (part ∷ parts) after = short_first g (parts_after g note parts after Told.Short) (Aim.Range part) parts after (first_stage g (Aim.Range part)) (short_parts g note parts after)

-- a call that has a pass reads no pins after a coding in which memory was wanting
pub short_next : (g : Shape) (tries : ℕ) (kind : Kind) (job : Job) (pairs : List (ℕ × ℕ)) (at : State) → IsTrue (is_in_pass (act_at g tries job pairs at))
    → Keeps None (next_call_from g kind job pairs at Told.Short).at
short_next g tries kind job pairs (State.Parts part parts after) h = open_kept None g (parts_after g job.note (part ∷ parts) after Told.Short) (short_parts g job.note (part ∷ parts) after)
short_next g tries kind job pairs (State.Gather aim asking parts after) h =
    open_kept None g (stage_state (parts_state parts after) aim parts after (stage_after g aim asking Told.Short)) (short_stage g (parts_state parts after) aim parts after asking)
short_next g tries kind job pairs (State.Ending outcome) h = tt
short_next g tries kind job pairs (State.Finished outcome) h = absurd (true≢false (sym h))
short_next g tries Kind.Put job pairs State.Start h = tt
short_next g tries Kind.Write job pairs State.Start h = tt
short_next g tries Kind.Get job pairs State.Start h = tt
short_next g tries Kind.ReadAt job pairs State.Start h = tt
short_next g tries Kind.Stat job pairs State.Start h = tt
short_next g tries Kind.Delete job pairs State.Start h = tt
short_next g tries Kind.Rebuild job pairs State.Start h = tt
short_next g tries kind job pairs (State.Chunk seen target) h = next_kept None g kind job pairs (State.Chunk seen target) Told.Short tt
short_next g tries kind job pairs State.Drawing h = next_kept None g kind job pairs State.Drawing Told.Short tt
short_next g tries kind job pairs (State.Preparing stripe version server servers row later placed versions) h =
    next_kept None g kind job pairs (State.Preparing stripe version server servers row later placed versions) Told.Short tt
short_next g tries kind job pairs (State.Committing versions placed) h = next_kept None g kind job pairs (State.Committing versions placed) Told.Short tt
short_next g tries kind job pairs (State.Committed versions) h = next_kept None g kind job pairs (State.Committed versions) Told.Short tt
short_next g tries kind job pairs (State.Settling point place places) h = next_kept None g kind job pairs (State.Settling point place places) Told.Short tt
short_next g tries kind job pairs (State.Confirming seen target) h = next_kept None g kind job pairs (State.Confirming seen target) Told.Short tt
short_next g tries kind job pairs (State.Installing seen target) h = next_kept None g kind job pairs (State.Installing seen target) Told.Short tt
short_next g tries kind job pairs (State.Placing target epoch) h = next_kept None g kind job pairs (State.Placing target epoch) Told.Short tt

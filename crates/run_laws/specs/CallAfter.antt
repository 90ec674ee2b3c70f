-- The state of a call after one answer more.
use Rattle.std.specs.Prelude.{ℕ, List, [], ◌∷◌, ◌++◌, fold}
use Rattle.clay_grid.specs.Shape.{Shape}
use Rattle.store_core.specs.Told.{Told}
use Rattle.store_core.specs.Note.{Note, Kind}
use Rattle.store_core.specs.Act.{Outcome}
use Rattle.store_core.specs.NextAct.{Job}
use Rattle.run_laws.specs.StageAfter.{stage_after}
use Rattle.run_laws.specs.State.{State, CallState, first_state}
use Rattle.run_laws.specs.States.{parts_state, stage_state, settle_state}
use Rattle.run_laws.specs.WriteAfter.{drawing_after, preparing_after, committing_after, committed_after}
use Rattle.run_laws.specs.GatherAfter.{ending_after, confirming_after, installing_after, parts_after, chunk_after}
use Rattle.run_laws.specs.LookAfter.{start_after}

-- the changes that a write was told
abbrev pub pairs_with : List (ℕ × ℕ) → Told → List (ℕ × ℕ)
pairs_with pairs (Told.Changed base newer) = pairs ++ (base, newer) ∷ []
pairs_with pairs _ = pairs

module _ (g : Shape) where
  -- at each state but the first
  abbrev pub state_after : Note → State → Told → State
  state_after note State.Start answer = State.Start
  state_after note (State.Parts part parts after) answer = parts_after g note (part ∷ parts) after answer
  state_after note (State.Chunk seen target) answer = chunk_after g seen target answer
  state_after note (State.Gather aim asking parts after) answer = stage_state (parts_state parts after) aim parts after (stage_after g aim asking answer)
  state_after note State.Drawing answer = drawing_after g note answer
  state_after note (State.Preparing stripe version server servers row later placed versions) answer = preparing_after g stripe version servers row later placed versions answer
  state_after note (State.Committing versions placed) answer = committing_after answer
  state_after note (State.Committed versions) answer = committed_after g versions answer
  state_after note (State.Settling point place places) answer = settle_state point places
  state_after note (State.Confirming seen target) answer = confirming_after seen target answer
  state_after note (State.Installing seen target) answer = installing_after target answer
  state_after note (State.Placing target epoch) answer = ending_after Outcome.Rebuilt answer
  state_after note (State.Ending outcome) answer = ending_after outcome answer
  state_after note (State.Finished outcome) answer = State.Finished outcome

  -- by the kind; changes come in place of the look's answer
  abbrev pub call_after_from : Kind → Job → List (ℕ × ℕ) → State → Told → CallState
  call_after_from kind job pairs State.Start answer = record { pairs = pairs_with pairs answer; at = start_after g kind job answer }
  call_after_from kind job pairs at answer = record { pairs = pairs; at = state_after job.note at answer }

  -- of a call that is told one thing more, in whatever list
  abbrev pub call_after : Kind → Job → CallState → Told → CallState
  call_after kind job s answer = call_after_from kind job s.pairs s.at answer

-- after what is kept of the answers
abbrev pub state_of : Shape → Job → List Told → CallState
state_of g job told = fold (call_after g job.note.kind job) first_state told

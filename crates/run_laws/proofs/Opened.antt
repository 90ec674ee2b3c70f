-- A gathering that was told nothing yet goes on as at its first question.
use Rattle.std.proofs.Common.{◌≡◌, ℕ, List, [], ◌∷◌, refl}
use Rattle.clay_grid.specs.Shape.{Shape}
use Rattle.store_core.specs.Told.{Seen, Told}
use Rattle.store_core.specs.Note.{Kind}
use Rattle.store_core.specs.Gathering.{Part}
use Rattle.store_core.specs.NextAct.{Job}
use Rattle.run_laws.specs.Stage.{Aim, Stage}
use Rattle.run_laws.specs.Stages.{first_stage}
use Rattle.run_laws.specs.State.{Sequel, State, CallState}
use Rattle.run_laws.specs.States.{sequel_state, parts_state, stage_state, open_parts, open_state}
use Rattle.run_laws.specs.GatherAfter.{sequel_after, first_after, parts_after}
use Rattle.run_laws.specs.CallAfter.{call_after_from}

-- no gathering in one entry
abbrev pub IsAnswer : Told → Type 0
IsAnswer Told.Gathered = ⊥
IsAnswer answer = Unit {0}

module _ (g : Shape) (kind : Kind) (job : Job) (pairs : List (ℕ × ℕ)) where
  -- a state with these changes
  abbrev pub state_at : State → CallState
  state_at at = record { pairs = pairs; at = at }

  -- what follows the last gathering
  pub sequel_goes : (after : Sequel) (answer : Told) → call_after_from g kind job pairs (sequel_state after) answer ≡ state_at (sequel_after g job.note after answer)
  sequel_goes (Sequel.Serve point) answer = refl
  sequel_goes Sequel.Draw answer = refl
  sequel_goes (Sequel.Confirm seen target) answer = refl

  -- the parts that are gathered next
  pub next_goes : (parts : List Part) (after : Sequel) (answer : Told) → call_after_from g kind job pairs (parts_state parts after) answer ≡ state_at (parts_after g job.note parts after answer)
  next_goes [] after answer = sequel_goes after answer
  next_goes (part ∷ parts) after answer = refl

  -- a stage
  stage_goes : (bytes later : State) (aim : Aim) (parts : List Part) (after : Sequel) (stage : Stage) (answer : Told)
      → call_after_from g kind job pairs bytes answer ≡ state_at later
      → call_after_from g kind job pairs (stage_state bytes aim parts after stage) answer ≡ state_at (first_after g later aim parts after stage answer)
  stage_goes bytes later aim parts after (Stage.Asks asking) answer e = refl
  stage_goes bytes later aim parts after Stage.HasBytes answer e = e
  stage_goes bytes later aim parts after (Stage.TooMany missing) answer e = refl
  stage_goes bytes later aim parts after Stage.AtTarget answer e = refl
  stage_goes bytes later aim parts after (Stage.TargetAway downs) answer e = refl
  stage_goes bytes later aim parts after Stage.Short answer e = refl

  -- the parts, opened
  open_goes : (parts : List Part) (after : Sequel) (answer : Told) → IsAnswer answer
      → call_after_from g kind job pairs (open_parts g parts after) answer ≡ state_at (parts_after g job.note parts after answer)
  open_goes [] after answer h = sequel_goes after answer
  open_goes (part ∷ parts) after Told.Gathered h = absurd h
  open_goes (part ∷ parts) after answer h =
      stage_goes (open_parts g parts after) (parts_after g job.note parts after answer) (Aim.Range part) parts after (first_stage g (Aim.Range part)) answer (open_goes parts after answer h)

  -- a chunk
  chunk_goes : (seen : Seen) (target : ℕ) (answer : Told) → IsAnswer answer
      → call_after_from g kind job pairs (open_state g (State.Chunk seen target)) answer ≡ call_after_from g kind job pairs (State.Chunk seen target) answer
  chunk_goes seen target Told.Gathered h = absurd h
  chunk_goes seen target answer h = refl

  -- any state
  pub opened_goes : (at : State) (answer : Told) → IsAnswer answer → call_after_from g kind job pairs (open_state g at) answer ≡ call_after_from g kind job pairs at answer
  opened_goes (State.Parts part parts after) answer h = open_goes (part ∷ parts) after answer h
  opened_goes (State.Chunk seen target) answer h = chunk_goes seen target answer h
  opened_goes at answer h = refl

  -- nothing is to be opened after the last gathering
  pub opened_after : (after : Sequel) → open_state g (sequel_state after) ≡ sequel_state after
  opened_after (Sequel.Serve point) = refl
  opened_after Sequel.Draw = refl
  opened_after (Sequel.Confirm seen target) = refl

  -- the parts that are gathered next, opened
  pub opened_next : (parts : List Part) (after : Sequel) → open_state g (parts_state parts after) ≡ open_parts g parts after
  opened_next [] after = opened_after after
  opened_next (part ∷ parts) after = refl

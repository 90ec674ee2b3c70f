-- The state of a call by what is left to do.
use Rattle.std.specs.Prelude.{ℕ, ◌+◌, List, [], ◌∷◌, ◌++◌}
use Rattle.std.specs.List.{range_with_len}
use Rattle.clay_grid.specs.Shape.{Shape, chunk_count}
use Rattle.store_map.specs.declared.placement.Placement.{Placement}
use Rattle.store_map.specs.declared.reply.Reply.TheVariants as reply
use Rattle.store_core.specs.Act.{Outcome}
use Rattle.store_core.specs.Gathering.{Part}
use Rattle.run_laws.specs.Stage.{Aim, Asking, Stage, seen_of}
use Rattle.run_laws.specs.Stages.{first_stage}
use Rattle.run_laws.specs.State.{Sequel, State, CallState}

-- after the last gathering
abbrev pub sequel_state : Sequel → State
sequel_state (Sequel.Serve point) = State.Ending (Outcome.Served point)
sequel_state Sequel.Draw = State.Drawing
sequel_state (Sequel.Confirm seen target) = State.Confirming seen target

-- these parts are gathered next
abbrev pub parts_state : List Part → Sequel → State
parts_state [] after = sequel_state after
parts_state (part ∷ parts) after = State.Parts part parts after

-- a gathering at a stage; where it has its bytes the call goes on as said first
abbrev pub stage_state : State → Aim → List Part → Sequel → Stage → State
stage_state bytes aim parts after (Stage.Asks asking) = State.Gather aim asking parts after
stage_state bytes aim parts after Stage.HasBytes = bytes
stage_state bytes aim parts after (Stage.TooMany missing) = State.Ending (Outcome.Unavailable (seen_of aim).stripe missing)
stage_state bytes aim parts after Stage.AtTarget = State.Ending Outcome.Here
stage_state bytes aim parts after (Stage.TargetAway downs) = State.Ending (Outcome.Away downs)
stage_state bytes aim parts after Stage.Short = State.Ending Outcome.NoMemory

-- the chunk of a stripe's version at each of some servers; next follows, with what all servers answered
abbrev pub prepare_state : List ℕ → ℕ → ℕ → List ℕ → List (List Placement) → (List Placement → State) → List ℕ → List Placement → State
prepare_state versions stripe version later placed next [] row = next row
prepare_state versions stripe version later placed next (server ∷ servers) row = State.Preparing stripe version server servers row later placed versions

-- version after version, then the commit
abbrev pub prepare_all_state : Shape → List ℕ → ℕ → List ℕ → List (List Placement) → State
prepare_all_state g versions stripe [] placed = State.Committing versions placed
prepare_all_state g versions stripe (version ∷ later) placed =
    prepare_state versions stripe version later placed (λ row. prepare_all_state g versions (stripe + 1) later (placed ++ row ∷ [])) (range_with_len 0 (chunk_count g)) []

-- these places are settled next
abbrev pub settle_state : ℕ → List (ℕ × ℕ) → State
settle_state point [] = State.Finished (Outcome.Answered point reply.Done)
settle_state point (place ∷ places) = State.Settling point place places

-- these parts are gathered next, and the first that asks stands at its first question
abbrev pub open_parts : Shape → List Part → Sequel → State
open_parts g [] after = sequel_state after
open_parts g (part ∷ parts) after = stage_state (open_parts g parts after) (Aim.Range part) parts after (first_stage g (Aim.Range part))

-- a gathering that was told nothing yet stands at its first question
abbrev pub open_state : Shape → State → State
open_state g (State.Parts part parts after) = open_parts g (part ∷ parts) after
open_state g (State.Chunk seen target) = State.Gather (Aim.Chunk seen target) (Asking.Target target) [] (Sequel.Confirm seen target)
open_state g at = at

-- so does that of a call
abbrev pub open_call : Shape → CallState → CallState
open_call g s = record { pairs = s.pairs; at = open_state g s.at }

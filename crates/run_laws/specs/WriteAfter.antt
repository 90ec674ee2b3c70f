-- The state of a call that writes after one answer more, from the draw on.
use Rattle.std.specs.Prelude.{ℕ, ◌+◌, ◌/◌, List, [], ◌∷◌, ◌++◌, nat_lt, if◌then◌else◌}
use Rattle.clay_grid.specs.Shape.{Shape, chunk_count, stripe_length}
use Rattle.store_map.specs.declared.placement.Placement.{Placement}
use Rattle.store_core.specs.Lists.{places_of}
use Rattle.store_core.specs.Told.{Told}
use Rattle.store_core.specs.Placements.{skipped_from, skipped_count}
use Rattle.store_core.specs.Note.{Note}
use Rattle.store_core.specs.Act.{Outcome}
use Rattle.run_laws.specs.State.{State}
use Rattle.run_laws.specs.States.{prepare_state, prepare_all_state, settle_state}

-- the commit; where it was done or found a change the definitions begin a new list of answers
abbrev pub committing_after : Told → State
committing_after (Told.Reaped point) = State.Finished (Outcome.Reaped point)
committing_after _ = State.Ending Outcome.NoMemory

module _ (g : Shape) where
  -- the versions are drawn
  abbrev pub drawing_after : Note → Told → State
  drawing_after note (Told.Versions versions) = prepare_all_state g versions (note.offset / stripe_length g) versions []
  drawing_after note (Told.Reaped point) = State.Finished (Outcome.Reaped point)
  drawing_after note _ = State.Ending Outcome.NoMemory

  -- once more servers were away for a stripe's version than there are parity chunks, the call ends without a commit
  abbrev pub unless_few : ℕ → List Placement → State → State
  unless_few stripe row otherwise =
      if nat_lt g.parity_count (skipped_count row) then State.Ending (Outcome.Unavailable stripe (skipped_from 0 row)) else otherwise

  -- the servers that are left, then the next version
  abbrev pub prepare_rest_state : ℕ → ℕ → List ℕ → List Placement → List ℕ → List (List Placement) → List ℕ → State
  prepare_rest_state stripe version servers row later placed versions =
      prepare_state versions stripe version later placed (λ whole. prepare_all_state g versions (stripe + 1) later (placed ++ whole ∷ [])) servers row

  -- a chunk is prepared
  abbrev pub preparing_after : ℕ → ℕ → List ℕ → List Placement → List ℕ → List (List Placement) → List ℕ → Told → State
  preparing_after stripe version servers row later placed versions (Told.Prepared placement) =
      unless_few stripe (row ++ placement ∷ []) (prepare_rest_state stripe version servers (row ++ placement ∷ []) later placed versions)
  preparing_after stripe version servers row later placed versions _ = State.Ending Outcome.NoMemory

  -- the commit's point
  abbrev pub committed_after : List ℕ → Told → State
  committed_after versions (Told.Done point) = settle_state point (places_of (chunk_count g) versions)
  committed_after versions _ = State.Finished Outcome.NoMemory

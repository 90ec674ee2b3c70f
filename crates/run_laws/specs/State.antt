-- Where a call stands between two steps: plain data, without the answers before.
use Rattle.std.specs.Prelude.{ℕ, List, []}
use Rattle.store_map.specs.declared.placement.Placement.{Placement}
use Rattle.store_core.specs.Told.{Seen}
use Rattle.store_core.specs.Act.{Outcome}
use Rattle.store_core.specs.Gathering.{Part}
use Rattle.run_laws.specs.Stage.{Aim, Asking}

-- what follows the last gathering of a call: its bytes are served, it draws versions, or its version is confirmed
pub data Sequel : Type 0 where
  Serve : (point : ℕ) → Sequel
  Draw : Sequel
  Confirm : (seen : Seen) (target : ℕ) → Sequel

-- where a call stands
pub data State : Type 0 where
  -- the look is next, or no try is left
  Start : State
  -- a gathering that was told nothing yet, of a part or of a chunk
  Parts : (part : Part) (parts : List Part) (after : Sequel) → State
  Chunk : (seen : Seen) (target : ℕ) → State
  -- a gathering that asks, the parts after it, and what follows
  Gather : (aim : Aim) (asking : Asking) (parts : List Part) (after : Sequel) → State
  -- versions are drawn next
  Drawing : State
  -- the chunk of a stripe's version is prepared at a server next, then at the others left; row is what the servers before answered, later the
  -- versions of the stripes after it, placed the rows of those before it, and versions are all that were drawn
  Preparing : (stripe version server : ℕ) (servers : List ℕ) (row : List Placement) (later : List ℕ) (placed : List (List Placement)) (versions : List ℕ) → State
  -- the commit of the versions is next, with what the servers answered
  Committing : (versions : List ℕ) (placed : List (List Placement)) → State
  -- what is kept of a call that has committed, without its point
  Committed : (versions : List ℕ) → State
  -- the call has committed at a point; a place's chunk is settled next, then those of the others
  Settling : (point : ℕ) (place : ℕ × ℕ) (places : List (ℕ × ℕ)) → State
  -- a rebuild confirms its version, installs its chunk, or says that the chunk was placed
  Confirming : (seen : Seen) (target : ℕ) → State
  Installing : (seen : Seen) (target : ℕ) → State
  Placing : (target epoch : ℕ) → State
  -- the pass is to be ended, then there is this outcome
  Ending : (outcome : Outcome) → State
  -- the call is over
  Finished : (outcome : Outcome) → State

-- with the changes that a write was told
pub record CallState : Type 0 where
  pub pairs : List (ℕ × ℕ)
  pub at : State

-- a call before its first step
abbrev pub first_state : CallState
first_state = record { pairs = []; at = State.Start }

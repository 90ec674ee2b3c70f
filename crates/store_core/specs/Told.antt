-- What a step is answered.
use Rattle.std.specs.Prelude.{ℕ, List, Option}
use Rattle.store_map.specs.declared.placement.Found.{Found}
use Rattle.store_map.specs.declared.placement.LostChunk.{LostChunk}
use Rattle.store_map.specs.declared.placement.Placement.{Placement}
use Rattle.store_map.specs.declared.reply.Reply.{Reply}

-- a pinned stripe: its version that was current, and how each server took that version's chunk
pub record Seen : Type 0 where
  pub stripe : ℕ
  pub version : ℕ
  pub placed : List Placement

-- a server without its chunk: how it took the chunk, and what it answered when it was asked
pub record Lost : Type 0 where
  pub server : ℕ
  pub placed : Placement
  pub found : Found

-- a missing server of the program
abbrev pub lost_in : LostChunk → Lost
lost_in lost = record { server = lost.server; placed = lost.placed; found = lost.found }

-- an answer of a step, with numbers alone
pub data Told : Type 0 where
  -- the directory to a client's look: a reply of the map at a point, or pinned stripes
  Answer : (point : ℕ) (reply : Reply) → Told
  Pinned : (point length : ℕ) (stripes : List Seen) → Told
  Ready : (base : Option ℕ) (length : ℕ) (stripes : List Seen) → Told
  -- the directory to a repairer's look
  NoSuch : Told
  PinnedStripe : (seen : Seen) → Told
  -- the directory to the holder of a pass
  Versions : (versions : List ℕ) → Told
  Done : (point : ℕ) → Told
  Changed : (base newer : ℕ) → Told
  Ended : Told
  Current : Told
  Superseded : (newer : ℕ) → Told
  Reaped : (point : ℕ) → Told
  -- the directory to the sweeper and to the operator, where there was something to take or to give up
  Taken : (version : Option ℕ) → Told
  GivenUp : (point : Option ℕ) → Told
  -- a server; the last three to an install
  Prepared : (placement : Placement) → Told
  Settled : Told
  Here : Told
  Missing : (found : Found) → Told
  Given : (layers : ℕ) → Told
  Placed : (epoch : ℕ) → Told
  AlreadyThere : Told
  Away : (downs : ℕ) → Told
  -- a step that answers nothing
  Made : Told
  -- no step: the pass or the server isn't there, or the call is over
  NotMade : Told
  -- memory was wanting in the step, or in the coding before it
  Short : Told
  -- stands for all that a gathering was told that has its bytes
  Gathered : Told

-- Where a gathering stands between two answers: plain data.
use Rattle.std.specs.Prelude.{ℕ, List}
use Rattle.store_core.specs.Told.{Seen, Lost}
use Rattle.store_core.specs.Gathering.{Part}

-- what is gathered: the bytes of a part, or what one chunk of a pinned stripe is made of
pub data Aim : Type 0 where
  Range : (part : Part) → Aim
  Chunk : (seen : Seen) (target : ℕ) → Aim

-- the pinned stripe
abbrev pub seen_of : Aim → Seen
seen_of (Aim.Range part) = part.seen
seen_of (Aim.Chunk seen target) = seen

-- which server is asked now, those that are left to ask, and the missing ones
pub data Asking : Type 0 where
  -- for the layers with wanted bytes
  Fetch : (server : ℕ) (more : List ℕ) (missing : List Lost) → Asking
  -- whether it has its chunk
  Look : (server : ℕ) (more : List ℕ) (missing : List Lost) → Asking
  -- for the repair layers of the lost chunk
  Repair : (server : ℕ) (more : List ℕ) (lost : Lost) → Asking
  -- for its whole chunk, where so many are wanted after it
  Whole : (server : ℕ) (more : List ℕ) (wanted : ℕ) (missing : List Lost) → Asking
  -- the target of a rebuild, whether it has its chunk
  Target : (server : ℕ) → Asking

-- a gathering asks, or it has ended: with its bytes, with too many missing, by its target, or for want of memory
pub data Stage : Type 0 where
  Asks : (asking : Asking) → Stage
  HasBytes : Stage
  TooMany : (missing : List Lost) → Stage
  AtTarget : Stage
  TargetAway : (downs : ℕ) → Stage
  Short : Stage

-- The sweeper: what it does next, and what it has to do after that.
use Rattle.std.specs.Prelude.{ℕ, ◌+◌, nat_lt, Some, Bool, true, false, if◌then◌else◌}
use Rattle.store_core.specs.Told.{Told}
use Rattle.store_core.specs.Act.{Act, DirectoryStep, ServerStep}

-- idle, or discarding a version, with the server that is next
pub data Sweeper : Type 0 where
  Idle : Sweeper
  Sweeping : (version server : ℕ) → Sweeper

-- whether the sweeper has begun with a version
abbrev pub is_busy : Sweeper → Bool
is_busy Sweeper.Idle = false
is_busy (Sweeper.Sweeping version server) = true

-- it takes the least garbage, discards it at each of so many servers, and tells the directory that it is swept
abbrev pub next_sweep : ℕ → Sweeper → Act
next_sweep servers Sweeper.Idle = Act.AtDirectory DirectoryStep.NextGarbage
next_sweep servers (Sweeper.Sweeping version server) =
    if nat_lt server servers then Act.AtServer server (ServerStep.Discard version) else Act.AtDirectory (DirectoryStep.Swept version)

-- the sweeper has taken a version, or found none
abbrev pub after_taken : Told → Sweeper
after_taken (Told.Taken (Some version)) = Sweeper.Sweeping version 0
after_taken _ = Sweeper.Idle

-- after a step of the sweeper
abbrev pub after_sweep : ℕ → Sweeper → Told → Sweeper
after_sweep servers Sweeper.Idle answer = after_taken answer
after_sweep servers (Sweeper.Sweeping version server) answer =
    if nat_lt server servers then Sweeper.Sweeping version (server + 1) else Sweeper.Idle

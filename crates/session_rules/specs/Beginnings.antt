-- A new directory and new servers.
use Rattle.std.specs.Prelude.{ℕ, [], replicate}
use Rattle.clay_grid.specs.Shape.{Shape, chunk_count}
use Rattle.store_map.specs.declared.actor.Actor.{Actor}
use Rattle.store_core.specs.Conditions.{MayBegin}
use Rattle.store_core.specs.Directory.{new_directory}
use Rattle.store_core.specs.Server.{new_server}
use Rattle.store_core.specs.Step.{Places}
use Rattle.session_rules.specs.State.{first_state}
use Rattle.session_rules.specs.Seen.{IsSeenAs, IsQuiet}
use Rattle.session_rules.specs.Sweeps.{KeepsPinned}

-- places in which nothing was done yet
abbrev pub new_places : Shape → ℕ → Places
new_places g max = record { directory = new_directory g max; servers = replicate (chunk_count g) new_server }

-- they are seen as a session's first state, they are quiet, and any actor may begin its calls
pub record BeginningsAreSeen : Type 0 where
  pub seen : (g : Shape) (max : ℕ) → IsSeenAs g max [] (new_places g max) (first_state g)
  pub quiet : (g : Shape) (max : ℕ) → IsQuiet [] (new_places g max) (first_state g)
  pub pinned : (g : Shape) (max : ℕ) → KeepsPinned [] (new_places g max) (first_state g)
  pub begins : (g : Shape) (max : ℕ) (who : Actor) (number : ℕ) → MayBegin (new_directory g max) who number

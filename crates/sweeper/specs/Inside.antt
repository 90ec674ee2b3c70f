-- The fields of a sweeper as callers see them.
use Rattle.std.specs.Prelude.{ℕ, Option, None, Some}
use Rattle.store_map.specs.declared.actor.Version.{Version}
use Rattle.store_core.specs.Sweep.{Sweeper}
use Rattle.sweeper.specs.declared.sweeper.Sweeper.TheInside.{Inside}
use Rattle.sweeper.specs.Sweeps.{SweeperOf}

-- sweeping where it has taken a version
abbrev pub standing : Option Version → ℕ → Sweeper
standing None server = Sweeper.Idle
standing (Some version) server = Sweeper.Sweeping version.0 server

-- what callers see
abbrev pub sweeper_in : Inside → SweeperOf
sweeper_in a = record { servers = a.servers; at = standing a.version a.server }

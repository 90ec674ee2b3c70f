-- The steps of the last sweep.
use Rattle.std.specs.Prelude.{ℕ}
use Rattle.store_map.specs.declared.script.Script.{Script}
use Rattle.world_laws.specs.SweepsLeft.{sweeps_left}
use Rattle.store_run.specs.declared.ended.Ended.{Ended}

-- how many of them the sweeper has left
abbrev pub steps_left : Script → Ended → ℕ
steps_left script ended = sweeps_left script.geometry ended.sweeper.at ended.directory.core

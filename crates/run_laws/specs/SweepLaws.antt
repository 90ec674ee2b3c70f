-- The sweeper's steps for one version: it takes it, discards it at each server in rising order, and says that it is swept.
use Rattle.std.specs.Prelude.{◌≡◌, ℕ, ◌+◌, ◌-◌, ◌<◌, None, Some}
use Rattle.clay_grid.specs.Shape.{Shape, chunk_count}
use Rattle.store_core.specs.Told.{Told}
use Rattle.store_core.specs.Act.{Act, DirectoryStep, ServerStep}
use Rattle.store_core.specs.Bounds.{sweep_bound}
use Rattle.store_core.specs.Sweep.{Sweeper, next_sweep, after_sweep}

-- the steps that the sweeper has left for the version that it has taken
abbrev pub sweep_left : ℕ → Sweeper → ℕ
sweep_left servers Sweeper.Idle = 0
sweep_left servers (Sweeper.Sweeping version server) = servers - server + 1

-- a version takes as many steps as the bound says, whatever the steps are answered
pub record SweepsInOrder (g : Shape) : Type 0 where
  pub takes : next_sweep (chunk_count g) Sweeper.Idle ≡ Act.AtDirectory DirectoryStep.NextGarbage
  pub begins : (version : ℕ) → sweep_left (chunk_count g) (after_sweep (chunk_count g) Sweeper.Idle (Told.Taken (Some version))) + 1 ≡ sweep_bound g
  pub rests : after_sweep (chunk_count g) Sweeper.Idle (Told.Taken None) ≡ Sweeper.Idle
  pub discards :
      (version server : ℕ) → server < chunk_count g →
      next_sweep (chunk_count g) (Sweeper.Sweeping version server) ≡ Act.AtServer server (ServerStep.Discard version)
  pub falls :
      (version server : ℕ) (answer : Told) → server < chunk_count g →
      after_sweep (chunk_count g) (Sweeper.Sweeping version server) answer ≡ Sweeper.Sweeping version (server + 1)
  pub says :
      (version : ℕ) → next_sweep (chunk_count g) (Sweeper.Sweeping version (chunk_count g)) ≡ Act.AtDirectory (DirectoryStep.Swept version)
  pub ends : (version : ℕ) (answer : Told) → after_sweep (chunk_count g) (Sweeper.Sweeping version (chunk_count g)) answer ≡ Sweeper.Idle

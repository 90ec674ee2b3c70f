-- The steps that the sweeper has left, where nobody else makes one.
use Rattle.std.specs.Prelude.{◌≡◌, ℕ, ◌+◌, ◌*◌, ◌<◌, ◌||◌, Bool, true, false, List, [], ◌∷◌, is_some, if◌then◌else◌}
use Rattle.clay_grid.specs.Shape.{Shape, chunk_count}
use Rattle.store_map.specs.declared.actor.Actor.TheVariants as actor
use Rattle.store_core.specs.Told.{Told}
use Rattle.store_core.specs.Act.{Act, DirectoryStep, ServerStep}
use Rattle.store_core.specs.AtDirectory.{at_directory}
use Rattle.store_core.specs.Bounds.{sweep_bound}
use Rattle.store_core.specs.Directory.{Standing, Version, Directory}
use Rattle.store_core.specs.Lookups.{first_garbage}
use Rattle.store_core.specs.Sound.{IsSound}
use Rattle.store_core.specs.Sweep.{Sweeper, is_busy, next_sweep, after_sweep}
use Rattle.run_laws.specs.SweepLaws.{sweep_left}

-- how many versions the sweeper has not taken
abbrev pub is_untaken : Standing → Bool
is_untaken Standing.Taken = false
is_untaken Standing.Swept = false
is_untaken _ = true

abbrev pub untaken : List Version → ℕ
untaken [] = 0
untaken (version ∷ versions) = (if is_untaken version.standing then 1 else 0) + untaken versions

-- the steps that it has left
abbrev pub sweeps_left : Shape → Sweeper → Directory → ℕ
sweeps_left g s d = sweep_bound g * untaken d.versions + sweep_left (chunk_count g) s

-- a sweeper that is busy or finds garbage has fewer left after its step
pub record SweepsFall (g : Shape) (s : Sweeper) (d : Directory) : Type 0 where
  pub at_directory :
      (step : DirectoryStep) → next_sweep (chunk_count g) s ≡ Act.AtDirectory step → (is_busy s || is_some (first_garbage d)) ≡ true →
      let after : Directory × Told = at_directory false actor.Sweeper 0 step d in
      sweeps_left g (after_sweep (chunk_count g) s after.1) after.0 < sweeps_left g s d
  pub at_server :
      (server : ℕ) (step : ServerStep) (answer : Told) → next_sweep (chunk_count g) s ≡ Act.AtServer server step →
      sweeps_left g (after_sweep (chunk_count g) s answer) d < sweeps_left g s d

-- so it is of every sound directory
abbrev pub SweepsFallFrom : Type 0
SweepsFallFrom = (g : Shape) (s : Sweeper) (d : Directory) → IsSound d → SweepsFall g s d

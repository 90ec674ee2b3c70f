-- A run as the code has it.
use Rattle.std.specs.Prelude.{◌≡◌, ℕ, ◌<◌, false, List, Bool, length, get_or}
use Rattle.clay_grid.specs.Shape.{node_count, layer_count}
use Rattle.lost_layers.specs.Placing.{IsPlaced}
use Rattle.lost_layers.specs.Erased.{Erased, IsErased}
use Rattle.lost_layers.specs.ErasedLayers.{is_solved}
use Rattle.lost_layers.specs.declared.erased.ErasedRun.{ErasedRun}
use Rattle.lost_layers.specs.declared.pieces_of_missing.SolvedRun.{SolvedRun}
use Rattle.lost_layers.specs.declared.marked.MarkedRun.{MarkedRun}

abbrev pub erased_of : ErasedRun → Erased
erased_of run = record { g = run.placed.g; run = run.placed.run; missing = run.missing.now; unknown = run.unknown.now }

-- a run with its place, and an entry for each node
pub record IsErasedRun (run : ErasedRun) : Type 0 where
  pub placed : IsPlaced run.placed
  pub erased : IsErased (erased_of run)
  pub missing : length run.missing.now ≡ node_count run.placed.g
  pub unknown : length run.unknown.now ≡ node_count run.placed.g

-- for each layer below a count, whether it is solved
pub record AreSolved (e : Erased) (count : ℕ) (solved : List Bool) : Type 0 where
  pub len : length solved ≡ count
  pub each : (n : ℕ) → n < count → get_or solved n false ≡ is_solved e n

abbrev pub solved_of : SolvedRun → Erased
solved_of run = record { g = run.placed.g; run = run.placed.run; missing = run.missing.now; unknown = run.unknown.now }

-- the same, and which layers are solved
pub record IsSolvedRun (run : SolvedRun) : Type 0 where
  pub placed : IsPlaced run.placed
  pub erased : IsErased (solved_of run)
  pub missing : length run.missing.now ≡ node_count run.placed.g
  pub unknown : length run.unknown.now ≡ node_count run.placed.g
  pub solved : AreSolved (solved_of run) (layer_count run.placed.g) run.solved.now

abbrev pub marked_of : MarkedRun → Erased
marked_of run = record { g = run.placed.g; run = run.placed.run; missing = run.missing.items; unknown = run.unknown.items }

-- the same, where the marks are the run's own
pub record IsMarkedRun (run : MarkedRun) : Type 0 where
  pub placed : IsPlaced run.placed
  pub erased : IsErased (marked_of run)
  pub missing : length run.missing.items ≡ node_count run.placed.g
  pub unknown : length run.unknown.items ≡ node_count run.placed.g
  pub solved : AreSolved (marked_of run) (layer_count run.placed.g) run.solved.items

-- A run of a lost chunk's layers, while other chunks are missing too.
use Rattle.std.specs.Prelude.{◌≡◌, ℕ, ◌≤◌, true, false, List, Bool, get_or}
use Rattle.clay_grid.specs.Shape.{Shape, node_count}
use Rattle.clay_grid.specs.Score.{count_below}
use Rattle.lost_layers.specs.LostLayers.{IsLostRun, lost_node}
use Rattle.lost_layers.specs.declared.run.LostRun.{LostRun}

-- a run of a code's layers; for each node whether its chunk is missing, and whether its values count as unknown in every layer
pub record Erased : Type 0 where
  pub g : Shape
  pub run : LostRun
  pub missing : List Bool
  pub unknown : List Bool

abbrev pub is_missing : Erased → ℕ → Bool
is_missing e i = get_or e.missing i false

abbrev pub is_unknown : Erased → ℕ → Bool
is_unknown e i = get_or e.unknown i false

-- the lost chunk is missing, what is missing is unknown, and no more is unknown than sums tell
pub record IsErased (e : Erased) : Type 0 where
  pub run : IsLostRun e.g e.run
  pub lost : is_missing e (lost_node e.g e.run) ≡ true
  pub missing : (i : ℕ) → is_missing e i ≡ true → is_unknown e i ≡ true
  pub few : count_below (node_count e.g) (is_unknown e) ≤ e.g.parity_count

-- A run with the place of the lost chunk's node.
use Rattle.std.specs.Prelude.{◌≡◌, ◌%◌}
use Rattle.clay_grid.specs.Shape.{row_count}
use Rattle.clay_grid.specs.Limits.{IsGeometry}
use Rattle.lost_layers.specs.LostLayers.{IsLostRun, lost_node, lost_column}
use Rattle.lost_layers.specs.declared.placed.PlacedRun.{PlacedRun}

pub record IsPlaced (placed : PlacedRun) : Type 0 where
  pub geometry : IsGeometry placed.g
  pub run : IsLostRun placed.g placed.run
  pub node : placed.node ≡ lost_node placed.g placed.run
  pub row : placed.row ≡ lost_node placed.g placed.run % row_count placed.g
  pub column : placed.column ≡ lost_column placed.g placed.run

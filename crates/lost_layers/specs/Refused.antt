-- When a run of a lost chunk's layers is refused.
use Rattle.std.specs.Prelude.{◌<◌, ◌≤◌, ◌⊎◌}
use Rattle.clay_grid.specs.Shape.{Shape, chunk_count, layer_count}
use Rattle.lost_layers.specs.LostLayers.{IsLostRun}
use Rattle.lost_layers.specs.declared.run.LostRun.{LostRun}
use Rattle.lost_layers.specs.declared.lost_fault.LostFault.{LostFault}
use Rattle.lost_layers.specs.declared.lost_fault.LostFault.TheVariants.{NoSuchChunk, NoSuchLayers, OutOfMemory}

-- the code has no such chunk; a chunk has no such layers; or there are both, and memory is wanting
abbrev pub IsRefused : Shape → LostRun → LostFault → Type 0
IsRefused g run NoSuchChunk = chunk_count g ≤ run.lost
IsRefused g run NoSuchLayers = (run.lost < chunk_count g) × ((run.to < run.from) ⊎ (layer_count g < run.to))
IsRefused g run OutOfMemory = IsLostRun g run

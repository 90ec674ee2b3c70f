use Rattle.std.proofs.Common.{◌≡◌, ◌≤◌}
use Rattle.clay_grid.specs.Score.{count_below}
use Rattle.lost_layers.specs.LostPieces.{is_piece}
use Rattle.lost_layers.proofs.pieces.count_of_chunk.Given as goal

abbrev pub invariant-loop-layer : goal.invariant-loop-layer
invariant-loop-layer l = (l.count ≡ count_below l.layer (is_piece l.placed.g l.placed.run l.node)) × (l.count ≤ l.layer)

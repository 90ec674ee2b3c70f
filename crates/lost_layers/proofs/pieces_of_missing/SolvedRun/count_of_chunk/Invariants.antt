use Rattle.std.proofs.Common.{◌≡◌, ◌≤◌}
use Rattle.clay_grid.specs.Score.{count_below}
use Rattle.lost_layers.specs.ErasedPieces.{is_piece}
use Rattle.lost_layers.specs.ErasedRuns.{solved_of}
use Rattle.lost_layers.proofs.pieces_of_missing.SolvedRun.count_of_chunk.Given as goal

abbrev pub invariant-loop-layer : goal.invariant-loop-layer
invariant-loop-layer l = (l.count ≡ count_below l.layer (is_piece (solved_of l.self) l.node)) × (l.count ≤ l.layer)

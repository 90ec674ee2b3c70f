use Rattle.std.proofs.Common.{◌≡◌, ◌++◌, map, filter}
use Rattle.std.specs.List.{range_with_len}
use Rattle.lost_layers.specs.LostPieces.{piece_at}
use Rattle.lost_layers.specs.ErasedPieces.{is_piece}
use Rattle.lost_layers.specs.ErasedRuns.{solved_of}
use Rattle.lost_layers.proofs.pieces_of_missing.SolvedRun.push_chunk.Given as goal

abbrev pub invariant-loop-layer : goal.invariant-loop-layer
invariant-loop-layer l = l.pieces.items ≡ l.initial.pieces.items ++ map (piece_at l.chunk) (filter (is_piece (solved_of l.self) l.node) (range_with_len 0 l.layer))

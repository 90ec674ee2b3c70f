use Rattle.std.proofs.Common.{◌≡◌, ◌++◌, map, filter}
use Rattle.std.specs.List.{range_with_len}
use Rattle.lost_layers.specs.LostPieces.{is_piece, piece_at}
use Rattle.lost_layers.proofs.pieces.push_chunk.Given as goal

abbrev pub invariant-loop-layer : goal.invariant-loop-layer
invariant-loop-layer l = l.pieces.items ≡ l.initial.pieces.items ++ map (piece_at l.chunk) (filter (is_piece l.placed.g l.placed.run l.node) (range_with_len 0 l.layer))

use Rattle.std.proofs.Common.{◌≡◌, flat_map}
use Rattle.std.specs.List.{range_with_len}
use Rattle.lost_layers.specs.LostPieces.{pieces_of_chunk}
use Rattle.lost_layers.proofs.pieces.pieces_of_run.Given as goal

abbrev pub invariant-loop-chunk : goal.invariant-loop-chunk
invariant-loop-chunk l = l.pieces.items ≡ flat_map (pieces_of_chunk l.placed.g l.placed.run) (range_with_len 0 l.chunk)

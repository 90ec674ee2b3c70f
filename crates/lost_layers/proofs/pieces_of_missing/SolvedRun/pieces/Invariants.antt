use Rattle.std.proofs.Common.{◌≡◌, flat_map}
use Rattle.std.specs.List.{range_with_len}
use Rattle.lost_layers.specs.ErasedPieces.{pieces_of_chunk}
use Rattle.lost_layers.specs.ErasedRuns.{solved_of}
use Rattle.lost_layers.proofs.pieces_of_missing.SolvedRun.pieces.Given as goal

abbrev pub invariant-loop-chunk : goal.invariant-loop-chunk
invariant-loop-chunk l = l.pieces.items ≡ flat_map (pieces_of_chunk (solved_of l.self)) (range_with_len 0 l.chunk)

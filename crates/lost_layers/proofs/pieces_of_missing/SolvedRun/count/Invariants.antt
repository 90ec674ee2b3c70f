use Rattle.std.proofs.Common.{◌≡◌, ◌≤◌, ◌*◌, length, flat_map}
use Rattle.std.specs.List.{range_with_len}
use Rattle.lost_layers.specs.ErasedPieces.{pieces_of_chunk}
use Rattle.lost_layers.specs.ErasedRuns.{solved_of}
use Rattle.lost_layers.proofs.pieces_of_missing.SolvedRun.count.Given as goal

abbrev pub invariant-loop-chunk : goal.invariant-loop-chunk
invariant-loop-chunk l =
    (l.count ≡ length (flat_map (pieces_of_chunk (solved_of l.self)) (range_with_len 0 l.chunk))) × (l.count ≤ l.chunk * 1024)

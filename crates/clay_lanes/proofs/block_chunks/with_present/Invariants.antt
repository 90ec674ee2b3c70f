use Rattle.clay_model.specs.Chunks.{contents}
use Rattle.clay_lanes.proofs.MissingChunks.{StandBefore}
use Rattle.clay_lanes.proofs.block_chunks.with_present.Given as goal

abbrev pub invariant-loop-c : goal.invariant-loop-c
invariant-loop-c l = StandBefore l.fn.g l.have l.c (contents l.chunks.items)

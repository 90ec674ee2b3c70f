use Rattle.clay_aloof.specs.Solved.{HoldsSubchunks}
use Rattle.clay_aloof.specs.Known.{node_bytes}
use Rattle.clay_aloof.proofs.aloof_chunks.couple_chunk.Given as goal

abbrev pub invariant-loop-z : goal.invariant-loop-z
invariant-loop-z l = HoldsSubchunks l.g l.plan (node_bytes l.g l.known) l.node l.z l.chunk

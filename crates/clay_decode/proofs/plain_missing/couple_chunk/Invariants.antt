use Rattle.code_laws.specs.Solved.{HoldsSubchunks}
use Rattle.clay_decode.proofs.plain_missing.couple_chunk.Given as goal

abbrev pub invariant-loop-z : goal.invariant-loop-z
invariant-loop-z l = HoldsSubchunks l.g l.have l.node l.z l.chunk

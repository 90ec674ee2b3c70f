use Rattle.code_laws.specs.Columns.{HoldsCoupled}
use Rattle.clay_encode.proofs.plain_chunks.couple_chunk.Given as goal

abbrev pub invariant-loop-z : goal.invariant-loop-z
invariant-loop-z l = HoldsCoupled l.g l.column l.x l.z l.chunk

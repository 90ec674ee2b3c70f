use Rattle.clay_model.specs.Chunks.{contents}
use Rattle.code_laws.specs.Columns.{AddsParity}
use Rattle.clay_encode.proofs.plain_chunks.add_parity_chunks.Given as goal

abbrev pub invariant-loop-x : goal.invariant-loop-x
invariant-loop-x l = AddsParity l.g l.column l.x (contents l.initial.chunks.items) (contents l.chunks.items)

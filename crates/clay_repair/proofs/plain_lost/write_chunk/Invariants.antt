use Rattle.std.proofs.Common.{ℕ, ◌<◌, get_or}
use Rattle.clay_grid.specs.Shape.{row_count}
use Rattle.code_laws.specs.Rebuilt.{HoldsRow}
use Rattle.clay_repair.proofs.plain_lost.write_chunk.Given as goal

abbrev pub invariant-loop-z : goal.invariant-loop-z
invariant-loop-z l = (k : ℕ) → k < l.z-index → HoldsRow l.g l.plan.lost l.parts (get_or l.plan.layers.items k 0) (row_count l.g) l.chunk

use Rattle.std.proofs.Common.{◌-◌, length}
use Rattle.generator_matrix.specs.SmallColumns.{own_added}
use Rattle.clay_kernels.proofs.ProgressLemmas.{BothDone}
use Rattle.generator_matrix.proofs.small_columns.add_two_values.Given as goal

abbrev pub invariant-loop-at : goal.invariant-loop-at
invariant-loop-at l = BothDone 0 l.at (length l.u0) l.fn.d0 l.d0 l.fn.d1 l.d1 (own_added l.p l.u0 l.u0 l.u1 l.fn.d0) (own_added l.p l.u1 l.u0 l.u1 l.fn.d1)

abbrev pub decreases-loop-at : goal.decreases-loop-at
decreases-loop-at l = length l.u0 - l.at

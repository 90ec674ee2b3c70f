use Rattle.std.proofs.Common.{◌-◌, length}
use Rattle.generator_matrix.specs.Columns.{both_of, first_ended}
use Rattle.clay_kernels.proofs.ProgressLemmas.{ThreeDone}
use Rattle.generator_matrix.proofs.column.end_rows_lanes.Given as goal

abbrev pub invariant-loop-at : goal.invariant-loop-at
invariant-loop-at l = ThreeDone l.start l.at (length l.d3) l.fn.d0 l.d0 l.fn.d1 l.d1 l.fn.d2 l.d2
    (first_ended l.fn.d0 l.fn.d1 l.fn.d2 l.d3)
    (both_of l.fn.d1 l.d3)
    (both_of l.fn.d2 l.d3)

abbrev pub decreases-loop-at : goal.decreases-loop-at
decreases-loop-at l = length l.d3 - l.at

use Rattle.std.proofs.Common.{◌-◌, length}
use Rattle.generator_matrix.specs.SmallColumns.{row_added, middle_added, last_row_added}
use Rattle.clay_kernels.proofs.ProgressLemmas.{ThreeDone}
use Rattle.generator_matrix.proofs.small_columns.add_three_values_lanes.Given as goal

abbrev pub invariant-loop-at : goal.invariant-loop-at
invariant-loop-at l = ThreeDone l.start l.at (length l.near) l.fn.row l.row l.fn.middle_row l.middle_row l.fn.last_row l.last_row
    (row_added l.sigma l.tau l.kappa l.rho l.near l.middle l.far l.fn.row)
    (middle_added l.sigma l.tau l.near l.middle l.far l.fn.middle_row)
    (last_row_added l.kappa l.rho l.near l.middle l.far l.fn.last_row)

abbrev pub decreases-loop-at : goal.decreases-loop-at
decreases-loop-at l = length l.near - l.at

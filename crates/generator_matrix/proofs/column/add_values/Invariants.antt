use Rattle.std.proofs.Common.{◌-◌, length}
use Rattle.generator_matrix.specs.Columns.{all_added, odd_added, high_added, last_added}
use Rattle.clay_kernels.proofs.ProgressLemmas.{FourDone}
use Rattle.generator_matrix.proofs.column.add_values.Given as goal

abbrev pub invariant-loop-at : goal.invariant-loop-at
invariant-loop-at l = FourDone 0 l.at (length l.u0) l.fn.d0 l.d0 l.fn.d1 l.d1 l.fn.d2 l.d2 l.fn.d3 l.d3
    (all_added l.u0 l.u1 l.u2 l.u3 l.fn.d0)
    (odd_added l.f.sigma l.u0 l.u1 l.u2 l.u3 l.fn.d1)
    (high_added l.f.tau l.u0 l.u1 l.u2 l.u3 l.fn.d2)
    (last_added l.f.kappa l.f.tau l.f.rho l.u0 l.u1 l.u2 l.u3 l.fn.d3)

abbrev pub decreases-loop-at : goal.decreases-loop-at
decreases-loop-at l = length l.u0 - l.at

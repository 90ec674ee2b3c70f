use Rattle.std.proofs.Common.{◌-◌, length}
use Rattle.clay_kernels.specs.Progress.{product_added}
use Rattle.clay_kernels.proofs.ProgressLemmas.{FourDone}
use Rattle.clay_kernels.proofs.kernels.add_four.Given as goal

abbrev pub invariant-loop-at : goal.invariant-loop-at
invariant-loop-at l = FourDone 0 l.at (length l.src) l.fn.d0 l.d0 l.fn.d1 l.d1 l.fn.d2 l.d2 l.fn.d3 l.d3
    (product_added l.p0 l.src l.fn.d0)
    (product_added l.p1 l.src l.fn.d1)
    (product_added l.p2 l.src l.fn.d2)
    (product_added l.p3 l.src l.fn.d3)

abbrev pub decreases-loop-at : goal.decreases-loop-at
decreases-loop-at l = length l.src - l.at

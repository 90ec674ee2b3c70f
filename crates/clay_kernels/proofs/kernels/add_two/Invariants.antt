use Rattle.std.proofs.Common.{◌-◌, length}
use Rattle.clay_kernels.specs.Progress.{product_added}
use Rattle.clay_kernels.proofs.ProgressLemmas.{BothDone}
use Rattle.clay_kernels.proofs.kernels.add_two.Given as goal

abbrev pub invariant-loop-at : goal.invariant-loop-at
invariant-loop-at l = BothDone 0 l.at (length l.src) l.fn.d0 l.d0 l.fn.d1 l.d1
    (product_added l.p0 l.src l.fn.d0)
    (product_added l.p1 l.src l.fn.d1)

abbrev pub decreases-loop-at : goal.decreases-loop-at
decreases-loop-at l = length l.src - l.at

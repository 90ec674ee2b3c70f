use Rattle.std.proofs.Common.{◌-◌, length}
use Rattle.clay_kernels.specs.Progress.{IsAdded}
use Rattle.clay_kernels.proofs.kernels.add_one.Given as goal

abbrev pub invariant-loop-at : goal.invariant-loop-at
invariant-loop-at l = IsAdded 0 l.at l.fn.dst l.dst l.p l.src

abbrev pub decreases-loop-at : goal.decreases-loop-at
decreases-loop-at l = length l.src - l.at

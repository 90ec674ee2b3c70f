use Rattle.std.proofs.Common.{◌-◌, length, get_or}
use Rattle.clay_field.specs.Field.{product}
use Rattle.clay_kernels.specs.Progress.{IsDone}
use Rattle.clay_kernels.proofs.slice_coupling.scale.Given as goal

abbrev pub invariant-loop-at : goal.invariant-loop-at
invariant-loop-at l = IsDone 0 l.at (length l.fn.bytes) l.fn.bytes l.bytes (λ k. product l.p (get_or l.fn.bytes k 0))

abbrev pub decreases-loop-at : goal.decreases-loop-at
decreases-loop-at l = length l.fn.bytes - l.at

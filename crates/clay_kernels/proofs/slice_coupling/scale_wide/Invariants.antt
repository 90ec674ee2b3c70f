use Rattle.std.proofs.Common.{◌-◌, length, get_or}
use Rattle.clay_field.specs.Field.{product}
use Rattle.clay_kernels.specs.Progress.{IsDone}
use Rattle.clay_kernels.proofs.slice_coupling.scale_wide.Given as goal

abbrev pub invariant-loop-bytes : goal.invariant-loop-bytes
invariant-loop-bytes l = IsDone 0 l.at (length l.fn.bytes) l.fn.bytes l.bytes (λ k. product l.p (get_or l.fn.bytes k 0))

abbrev pub decreases-loop-bytes : goal.decreases-loop-bytes
decreases-loop-bytes l = length l.fn.bytes - l.at

use Rattle.std.proofs.Common.{length, ◌-◌, ◌≡◌, ◌++◌, drop}
use Rattle.clay_model.specs.Code.{stripes_of}
use Rattle.clay_model.specs.Chunks.{contents}
use Rattle.clay_encode.proofs.stripes.split.Given as goal

abbrev pub invariant-loop-at : goal.invariant-loop-at
invariant-loop-at l = contents l.stripes.items ++ stripes_of l.fn.g (drop l.at l.bytes) ≡ stripes_of l.fn.g l.bytes

-- proposed from the loop's first test
abbrev pub decreases-loop-at : goal.decreases-loop-at
decreases-loop-at l = length l.bytes - l.at

use Rattle.std.proofs.Common.{◌≡◌, ℕ, ◌+◌, ◌<◌, [], get_or}
use Rattle.clay_model.specs.Chunks.{contents}
use Rattle.clay_lanes.proofs.lanes_checked.have_behind.Given as goal

abbrev pub invariant-loop-i : goal.invariant-loop-i
invariant-loop-i l = (k : ℕ) → k < l.i → get_or (contents l.chunks) (l.first + k) [] ≡ get_or (contents l.others) k []

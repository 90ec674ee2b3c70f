use Rattle.std.proofs.Common.{◌≡◌, get_or, None, is_some}
use Rattle.clay_grid.specs.Score.{count_below}
use Rattle.clay_aloof.proofs.lost_chunk.helper_count.Given as goal

abbrev pub invariant-loop-part : goal.invariant-loop-part
invariant-loop-part l = l.count ≡ count_below l.part-index (λ c. is_some (get_or l.parts c None))

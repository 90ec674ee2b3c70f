use Rattle.std.proofs.Common.{ℕ, ◌+◌, ◌*◌, ◌<◌, length, get_or}
use Rattle.clay_grid.specs.Shape.{layer_count}
use Rattle.clay_model.specs.Left.{Completes}
use Rattle.lane_repair.specs.Pieces.{HoldsByte}
use Rattle.clay_par.specs.declared.ranges.Range.{Range}
use Rattle.clay_par.proofs.shared_chunks.write_chunk.Given as goal

abbrev pub invariant-loop-range : goal.invariant-loop-range
invariant-loop-range l =
    (k z b : ℕ) (d : Range) → k < l.range-index → z < layer_count l.g → b < length (get_or l.ranges k d).values.items
    → HoldsByte (λ word. Completes l.g l.have word) l.c l.chunk (z * l.g.width + ((get_or l.ranges k d).at + b))

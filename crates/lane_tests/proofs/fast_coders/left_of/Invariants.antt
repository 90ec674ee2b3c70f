use Rattle.std.proofs.Common.{◌≡◌, length}
use Rattle.clay_grid.specs.Shape.{chunk_length}
use Rattle.clay_model.specs.Left.{AreLong}
use Rattle.lane_tests.proofs.fast_coders.left_of.Given as goal

abbrev pub invariant-loop-c : goal.invariant-loop-c
invariant-loop-c g l = (length l.have.items ≡ l.c) × AreLong (chunk_length l.g) l.have.items

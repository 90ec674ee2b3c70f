use Rattle.std.proofs.Common.{◌≡◌, ℕ, ◌<◌}
use Rattle.clay_model.specs.Sums.{weighted_sum, present_value}
use Rattle.clay_model.specs.Points.{byte_of}
use Rattle.clay_scalar.proofs.layer_sums.syndromes.Given as goal

abbrev pub invariant-loop-node : goal.invariant-loop-node
invariant-loop-node l = (j b : ℕ) → j < l.count → b < l.w → byte_of l.out l.w b j ≡ weighted_sum l.node (present_value l.values l.erased l.w b) j

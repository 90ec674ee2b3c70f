use Rattle.std.proofs.Common.{◌≡◌, ◌-◌, ◌%◌, ◌<◌, ◌≤◌}
use Rattle.clay_grid.specs.Layers.{layer_of}
use Rattle.clay_parity.specs.Blocks.{HoldsLayer}
use Rattle.clay_parity.specs.Solved.{solved_value}
use Rattle.clay_parity.proofs.parity_layers.solve_layer.Given as goal

abbrev pub invariant-loop-at : goal.invariant-loop-at
invariant-loop-at l = record {
  within : l.at ≤ l.fn.g.width;
  even : l.at < l.fn.g.width → l.at % 4096 ≡ 0;
  holds : HoldsLayer l.fn.g.parity_count l.fn.g.width l.at (λ e b. solved_value l.fn.g l.generator.each l.stripe b e (layer_of l.fn.g l.z)) l.layer;
}

abbrev pub decreases-loop-at : goal.decreases-loop-at
decreases-loop-at l = l.w - l.at

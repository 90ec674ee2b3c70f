use Rattle.std.proofs.Common.{◌≡◌}
use Rattle.clay_grid.specs.Score.{count_below}
use Rattle.lost_layers.specs.LostLayers.{is_wanted, layer_with, lost_column}
use Rattle.lost_layers.proofs.placed.PlacedRun.has_wanted.Given as goal

abbrev pub invariant-loop-x : goal.invariant-loop-x
invariant-loop-x l = count_below l.x (λ x. is_wanted l.self.run (layer_with l.self.g l.layer (lost_column l.self.g l.self.run) x)) ≡ 0

use Rattle.std.proofs.Common.{◌≡◌, ◌≤◌}
use Rattle.clay_grid.specs.Score.{count_below}
use Rattle.lost_layers.specs.Without.{is_gone}
use Rattle.lost_layers.proofs.missing.count_gone.Given as goal

abbrev pub invariant-loop-node : goal.invariant-loop-node
invariant-loop-node l = (l.count ≡ count_below l.node (is_gone l.g l.run l.present)) × (l.count ≤ l.node)

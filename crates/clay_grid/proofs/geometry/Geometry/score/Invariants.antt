use Rattle.std.proofs.Common.{◌≡◌, ◌+◌, ◌-◌, ◌/◌, ◌^◌, ◌≤◌}
use Rattle.clay_grid.specs.Layers.{layer_of}
use Rattle.clay_grid.specs.Score.{count_below}
use Rattle.clay_grid.proofs.ScoreLaws.{meets_erased}
use Rattle.clay_grid.proofs.geometry.Geometry.score.Given as goal

abbrev pub invariant-loop-passed : goal.invariant-loop-passed
invariant-loop-passed l = record {
  rest_is : l.rest ≡ l.z / l.q ^ l.passed;
  counted : l.score + count_below (l.columns - l.passed) (meets_erased l.q l.erased (layer_of l.self l.z)) ≡ count_below l.columns (meets_erased l.q l.erased (layer_of l.self l.z));
  within : l.score ≤ l.passed;
}

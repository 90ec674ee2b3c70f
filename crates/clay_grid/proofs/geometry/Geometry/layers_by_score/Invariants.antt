use Rattle.clay_grid.proofs.ByScore.{IsBelowScore}
use Rattle.clay_grid.proofs.geometry.Geometry.layers_by_score.Given as goal

abbrev pub invariant-loop-score : goal.invariant-loop-score
invariant-loop-score l = IsBelowScore l.self l.erased l.score l.layers.items

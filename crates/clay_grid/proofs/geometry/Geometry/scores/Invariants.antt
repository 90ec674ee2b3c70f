use Rattle.std.proofs.Common.{◌≡◌, map}
use Rattle.std.specs.List.{range_with_len}
use Rattle.clay_grid.specs.Score.{score_at}
use Rattle.clay_grid.proofs.geometry.Geometry.scores.Given as goal

abbrev pub invariant-loop-z : goal.invariant-loop-z
invariant-loop-z l = l.scores.items ≡ map (score_at l.self l.erased) (range_with_len 0 l.z)

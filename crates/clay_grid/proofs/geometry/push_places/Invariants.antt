use Rattle.std.proofs.Common.{◌≡◌, ◌++◌, eqb, get_or, filter}
use Rattle.std.specs.List.{range_with_len}
use Rattle.clay_grid.proofs.geometry.push_places.Given as goal

abbrev pub invariant-loop-z : goal.invariant-loop-z
invariant-loop-z l = l.places.items ≡ l.initial.places.items ++ filter (λ z. eqb (get_or l.scores z 0) l.score) (range_with_len 0 l.z)

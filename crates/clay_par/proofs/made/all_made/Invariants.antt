use Rattle.std.specs.Prelude.{◌≡◌, ◌++◌, map, Ok}
use Rattle.std.specs.Vec.Iter.{into_iter_items}
use Rattle.clay_par.proofs.made.all_made.Given as goal

abbrev pub invariant-loop-made : goal.invariant-loop-made
invariant-loop-made l =
    (l.yielded ≡ map Ok l.chunks.items) × (l.fn.results.items ≡ l.yielded ++ into_iter_items l.made-iterator)

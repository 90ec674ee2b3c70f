use Rattle.std.proofs.Common.{◌≡◌, eqb}
use Rattle.clay_c.specs.Pieces.{starts_of}
use Rattle.clay_c.specs.Calls.{place_among_others}
use Rattle.clay_c.proofs.rebuild_calls.part_starts.Given as goal

abbrev pub invariant-loop-c : goal.invariant-loop-c
invariant-loop-c l = l.starts.items ≡ starts_of (λ c. eqb c l.lost) (place_among_others l.lost) l.len l.c

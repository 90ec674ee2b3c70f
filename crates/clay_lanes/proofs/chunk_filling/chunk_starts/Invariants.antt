use Rattle.std.proofs.Common.{◌≡◌}
use Rattle.clay_lanes.specs.Standing.{starts_left}
use Rattle.clay_lanes.proofs.chunk_filling.chunk_starts.Given as goal

abbrev pub invariant-loop-c : goal.invariant-loop-c
invariant-loop-c l = l.starts.items ≡ starts_left l.fn.g l.missing l.c

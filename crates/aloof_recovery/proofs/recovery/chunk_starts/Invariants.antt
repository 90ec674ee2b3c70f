use Rattle.std.proofs.Common.{◌≡◌}
use Rattle.aloof_recovery.specs.Recoveries.{starts_left}
use Rattle.aloof_recovery.proofs.recovery.chunk_starts.Given as goal

abbrev pub invariant-loop-c : goal.invariant-loop-c
invariant-loop-c l = l.starts.items ≡ starts_left l.fn.g l.missing l.c

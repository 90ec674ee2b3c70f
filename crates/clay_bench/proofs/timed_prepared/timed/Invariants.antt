use Rattle.std.proofs.Common.{◌≡◌, ◌*◌, length}
use Rattle.clay_grid.specs.Shape.{chunk_length}
use Rattle.clay_bench.proofs.timed_prepared.timed.Given as goal

abbrev pub invariant-loop-time : goal.invariant-loop-time
invariant-loop-time g l = length l.chunks ≡ l.fn.prepared.parity_count * chunk_length l.fn.prepared

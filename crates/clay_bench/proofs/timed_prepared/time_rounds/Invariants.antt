use Rattle.std.proofs.Common.{◌≡◌, ◌*◌, length}
use Rattle.clay_grid.specs.Shape.{chunk_length}
use Rattle.clay_bench.proofs.timed_prepared.time_rounds.Given as goal

abbrev pub invariant-loop-round : goal.invariant-loop-round
invariant-loop-round g l = length l.chunks ≡ l.fn.prepared.parity_count * chunk_length l.fn.prepared

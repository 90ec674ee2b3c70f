use Rattle.std.proofs.Common.{◌≡◌, length}
use Rattle.lane_tests.proofs.fast_encoding.mixed_bytes.Given as goal

abbrev pub invariant-loop-i : goal.invariant-loop-i
invariant-loop-i g l = length l.bytes.items ≡ l.i

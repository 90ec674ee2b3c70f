use Rattle.std.proofs.Common.{◌≡◌, ◌*◌}
use Rattle.crc64.specs.Remainder.{remainder}
use Rattle.crc64.proofs.Crc64.after_zeros.Given as goal

abbrev pub invariant-loop-byte : goal.invariant-loop-byte
invariant-loop-byte l = l.register ≡ remainder (8 * l._byte) l.fn.start

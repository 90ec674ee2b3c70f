use Rattle.std.proofs.Common.{◌≡◌, ◌+◌, ◌*◌, ◌%◌, ◌^◌}
use Rattle.crc64.specs.Remainder.{remainder}
use Rattle.crc64.proofs.Crc64.word_remainder.Given as goal

abbrev pub invariant-loop-place : goal.invariant-loop-place
invariant-loop-place l = l.sum ≡ remainder (64 + 8 * l.behind) (l.word % 2 ^ (8 * l.place))

use Rattle.std.proofs.Common.{◌≡◌, ◌*◌, take}
use Rattle.crc64.specs.Remainder.{after}
use Rattle.crc64.proofs.Crc64.after_blocks.Given as goal

abbrev pub invariant-loop-number : goal.invariant-loop-number
invariant-loop-number l = l.register ≡ after l.fn.start (take (l.number * 16) l.bytes)

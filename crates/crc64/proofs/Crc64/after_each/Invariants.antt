use Rattle.std.proofs.Common.{◌≡◌, take}
use Rattle.crc64.specs.Remainder.{after}
use Rattle.crc64.proofs.Crc64.after_each.Given as goal

abbrev pub invariant-loop-byte : goal.invariant-loop-byte
invariant-loop-byte l = l.register ≡ after l.fn.start (take l.byte-index l.bytes)

use Rattle.std.proofs.Common.{◌≡◌}
use Rattle.crc64.specs.Remainder.{remainder}
use Rattle.crc64.proofs.byte_remainder.Given as goal

abbrev pub invariant-loop-step : goal.invariant-loop-step
invariant-loop-step l = l.register ≡ remainder l._step l.fn.byte

use Rattle.std.proofs.Common.{◌≡◌, ℕ, ◌*◌, ◌%◌, ◌^◌}
use Rattle.crc64.specs.Remainder.{remainder}
use Rattle.crc64.specs.Tables.{HasRegisters}
use Rattle.crc64.proofs.combiner.register_after.Given as goal

abbrev pub invariant-loop-place : goal.invariant-loop-place
invariant-loop-place l = (zeros : ℕ) → HasRegisters zeros 2048 l.registers → l.sum ≡ remainder zeros (l.start % 2 ^ (8 * l.place))

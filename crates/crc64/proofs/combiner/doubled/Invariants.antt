use Rattle.std.proofs.Common.{ℕ, ◌+◌, ◌*◌}
use Rattle.crc64.specs.Tables.{HasRegisters}
use Rattle.crc64.proofs.combiner.doubled.Given as goal

abbrev pub invariant-loop-register : goal.invariant-loop-register
invariant-loop-register l = (zeros : ℕ) → HasRegisters zeros 2048 l.registers → HasRegisters (zeros + zeros + 8 * l.fn.more) l.register-index l.table.items

use Rattle.std.proofs.Common.{◌*◌, ◌/◌, ◌^◌}
use Rattle.crc64.specs.Tables.{HasRegisters}
use Rattle.crc64.proofs.combiner.zero_bytes.Given as goal

abbrev pub invariant-loop-bit : goal.invariant-loop-bit
invariant-loop-bit l = HasRegisters (8 * (l.fn.length / 2 ^ l.bit)) 2048 l.table.items

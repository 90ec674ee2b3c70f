use Rattle.crc64.specs.Tables.{HasRegisters}
use Rattle.crc64.proofs.combiner.first_registers.Given as goal

abbrev pub invariant-loop-place : goal.invariant-loop-place
invariant-loop-place l = HasRegisters 0 l.place l.table.items

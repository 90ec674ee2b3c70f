use Rattle.crc64.specs.Tables.{HasRemainders}
use Rattle.crc64.proofs.first_table.Given as goal

abbrev pub invariant-loop-byte : goal.invariant-loop-byte
invariant-loop-byte l = HasRemainders l.byte l.table.items

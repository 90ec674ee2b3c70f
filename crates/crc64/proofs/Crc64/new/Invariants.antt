use Rattle.crc64.specs.Tables.{HasRemainders}
use Rattle.crc64.proofs.Crc64.new.Given as goal

abbrev pub invariant-loop-place : goal.invariant-loop-place
invariant-loop-place l = HasRemainders l.place l.remainders.items

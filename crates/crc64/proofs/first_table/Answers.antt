use Rattle.std.proofs.Common.{◌+◌, sym, subst, arith}
use Rattle.crc64.specs.Tables.{HasRemainders}
use Rattle.crc64.proofs.Lookups.{pushed_first}
use Rattle.crc64.proofs.first_table.Goals as goal

pub loop-byte-preserved : goal.loop-byte-preserved
loop-byte-preserved c =
    subst (HasRemainders (c.loop-byte.byte + 1)) (sym c.in_ok-push.ensures.items)
    (pushed_first c.loop-byte.byte c.byte_remainder.result c.loop-byte.table.items c.loop-byte.invariant (omega arith) c.byte_remainder.ensures)

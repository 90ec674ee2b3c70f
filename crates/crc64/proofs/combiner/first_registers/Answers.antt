use Rattle.std.proofs.Common.{◌+◌, refl, sym, subst, arith}
use Rattle.crc64.specs.Tables.{HasRegisters}
use Rattle.crc64.proofs.Combined.{pushed_byte}
use Rattle.crc64.proofs.combiner.first_registers.Goals as goal

pub loop-place-preserved : goal.loop-place-preserved
loop-place-preserved c =
    subst (HasRegisters 0 (c.loop-place.place + 1)) (sym c.in_ok-push.ensures.items)
    (pushed_byte c.loop-place.place _ c.loop-place.table.items (omega (arith, c.loop-place-test.true)) c.loop-place.invariant refl)

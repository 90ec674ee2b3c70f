use Rattle.std.proofs.Common.{◌≡◌, ℕ, ◌/◌, ◌^◌, ◌*◌, ◌-◌, ◌+◌, ap, subst, sym, arith}
use Rattle.crc64.specs.Tables.{HasRegisters}
use Rattle.crc64.proofs.Combined.{bit_more}
use Rattle.crc64.proofs.combiner.zero_bytes.Goals as goal

pub loop-bit-preserved : goal.loop-bit-preserved
loop-bit-preserved c =
    let length : ℕ = c.args.length in
    let left : ℕ = c.loop-bit.bit in
    let half : ℕ = length / 2 ^ left in
    let one_less : left ≡ left - 1 + 1 = omega (arith, c.loop-bit-test.true) in
    bit_more length (left - 1) half _ (ap (λ n. length / 2 ^ n) one_less)
    (c.in_ok-table-2.ensures (8 * half) (subst (HasRegisters (8 * half) 2048) (sym c.deref.ensures.value) c.loop-bit.invariant))

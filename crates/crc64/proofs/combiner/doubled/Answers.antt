use Rattle.std.proofs.Common.{◌≡◌, ℕ, ◌+◌, ◌*◌, get_or, refl, sym, subst, arith}
use Rattle.crc64.specs.Tables.{HasRegisters}
use Rattle.crc64.proofs.Combined.{pushed_doubled}
use Rattle.crc64.proofs.combiner.doubled.Goals as goal

pub loop-register-preserved : goal.loop-register-preserved
loop-register-preserved c = λ zeros have.
    let more = c.args.more in
    let registers = c.args.registers.now in
    let index : ℕ = c.loop-register.register-index in
    subst (HasRegisters (zeros + zeros + 8 * more) (index + 1)) (sym c.in_ok-push.ensures.items)
    (pushed_doubled zeros more index (get_or registers index 0) c.register_after-twice.result c.after_zeros.result registers c.loop-register.table.items have
    (omega (arith, c.loop-register-test.true, have.long)) refl (c.register_after-twice.ensures zeros have) c.after_zeros.ensures (c.loop-register.invariant zeros have))

pub returns : goal.returns
returns c = λ zeros have.
    let count : c.loop-register.register-index ≡ 2048 = omega (arith, c.loop-register-test.false, have.long, c.loop-register.auto.register-index-end) in
    subst (λ n. HasRegisters (zeros + zeros + 8 * c.args.more) n c.loop-register.table.items) count (c.loop-register.invariant zeros have)

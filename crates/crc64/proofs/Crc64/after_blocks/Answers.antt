use Rattle.std.proofs.Common.{◌≡◌, ◌+◌, ◌*◌, ◌-◌, take, drop, sym, ap, arith}
use Rattle.crc64.proofs.Division.{after_none}
use Rattle.crc64.proofs.Lookups.{blocks_step}
use Rattle.crc64.proofs.Crc64.after_blocks.Goals as goal

pub loop-number-init : goal.loop-number-init
loop-number-init c = sym (after_none c.args.start)

pub loop-number-preserved : goal.loop-number-preserved
loop-number-preserved c =
    let at = c.loop-number.number * 16 in
    let sixteen : at + 16 - at ≡ 16 = omega arith in
    blocks_step c.args.start c.loop-number.register c.after_block-register.result c.loop-number.number c.args.bytes.now
    (take (at + 16 - at) (drop at c.args.bytes.now)) c.loop-number.invariant (ap (λ n. take n (drop at c.args.bytes.now)) sixteen)
    c.after_block-register.ensures

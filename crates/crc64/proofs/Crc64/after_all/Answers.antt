use Rattle.std.proofs.Common.{◌≡◌, ℕ, ◌+◌, ◌-◌, ◌*◌, ◌/◌, ◌≤◌, min, length, sym, ◌∙◌, arith}
use Rattle.crc64.proofs.Division.{after_none}
use Rattle.crc64.proofs.Lookups.{turn_more, whole_after}
use Rattle.crc64.proofs.Crc64.after_all.Goals as goal

pub loop-at-init : goal.loop-at-init
loop-at-init c = (omega arith, sym (after_none c.args.start))

pub loop-at-preserved : goal.loop-at-preserved
loop-at-preserved c =
    let bytes = c.args.bytes.now in
    let at : ℕ = c.loop-at.at in
    let turn : ℕ = c.min.result / 32 * 32 in
    let few : c.min.result ≡ min (length bytes - at) 4096 = c.min.ensures in
    let within : at ≤ length bytes = c.loop-at.invariant.0 in
    let size : at + turn - at ≡ turn = omega arith in (
      omega (arith, few, within),
      turn_more c.args.start c.loop-at.register c.after_short-register.result at turn (at + turn - at) bytes size c.loop-at.invariant.1
          (c.after_short-register.ensures ∙ c.fold.ensures.sum),
    )

pub returns : goal.returns
returns c =
    whole_after c.args.start c.loop-at.register c.after_short.result c.loop-at.at c.args.bytes.now c.loop-at.invariant.1 c.after_short.ensures

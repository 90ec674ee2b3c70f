use Rattle.std.proofs.Common.{◌≡◌, ℕ, ◌+◌, ◌-◌, ◌≤◌, ◌%◌, length, get_or, ◌∙◌, subst, arith, bit_xor}
use Rattle.std.proofs.lemmas.Simd.{length-put_chunk}
use Rattle.crc64.specs.Folding.{span, gaps, gathered}
use Rattle.crc64.proofs.Folded.{folded}
use Rattle.crc64.proofs.Struck.{left_more}
use Rattle.crc64.proofs.folding.leave.Goals as goal

pub loop-at-preserved : goal.loop-at-preserved
loop-at-preserved c =
    let bytes = c.args.bytes.now in
    let at : ℕ = c.loop-at.at in
    let from : ℕ = length bytes - span in
    let i = c.loop-at.invariant in
    let even : at % 32 ≡ 0 = i.0 in
    let long : length c.loop-at.rest ≡ span = i.1 in
    let next : (at + 32) % 32 ≡ 0 = omega (arith, even) in
    let room : at + 32 ≤ length c.loop-at.rest = omega (arith, even, long, c.loop-at-test.true) in (
      next,
      length-put_chunk at c.loop-at.rest c.gathered-sum.result ∙ long,
      left_more from at (from + at + span + 32 - (from + at)) bytes c.args.digits.now c.loop-at.rest c.gathered-sum.result room (omega arith)
          c.gathered-sum.ensures i.2,
    )

pub returns : goal.returns
returns c = λ start count fits enough is have.
    let bytes = c.args.bytes.now in
    let i = c.loop-at.invariant in
    let rest = c.loop-at.rest in
    let from : length bytes - span ≡ count = omega (arith, is) in
    folded start count bytes c.args.digits.now rest fits enough is (λ k. (c.type_inv.digits k).fits) have i.1
    (λ k less. subst (λ n. get_or rest k 0 ≡ bit_xor (get_or bytes (n + k) 0) (gathered gaps c.args.digits.now (n + k))) from (i.2 k (omega (arith, less, c.loop-at-test.false))))

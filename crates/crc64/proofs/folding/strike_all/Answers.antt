use Rattle.std.proofs.Common.{◌≡◌, ℕ, ◌+◌, ◌≤◌, ◌%◌, length, ap, ◌∙◌, subst, arith}
use Rattle.crc64.specs.Folding.{span, entered, HasDigits}
use Rattle.crc64.proofs.Struck.{no_digits, later_entered}
use Rattle.crc64.proofs.folding.strike_all.Goals as goal

pub loop-at-init : goal.loop-at-init
loop-at-init c =
    let start : ℕ = c.args.start in
    let bytes = c.args.bytes.now in
    let long : span + 32 ≤ length bytes = c.requires.long in (
      omega arith,
      omega arith,
      long,
      c.strike.ensures start bytes (no_digits start bytes c.args.digits.now c.requires.blank)
          (λ k less. c.first_lanes.ensures k less ∙ ap (entered start bytes) {x = k} {y = 0 + k} (omega arith)),
    )

pub loop-at-preserved : goal.loop-at-preserved
loop-at-preserved c =
    let start : ℕ = c.args.start in
    let bytes = c.args.bytes.now in
    let at : ℕ = c.loop-at.at in
    let whole : length bytes % 32 ≡ 0 = c.requires.whole in
    let i = c.loop-at.invariant in
    let even : at % 32 ≡ 0 = i.0 in
    let enough : 32 ≤ at = i.1 in
    let next : (at + 32) % 32 ≡ 0 = omega (arith, even) in
    let room : span + (at + 32) ≤ length bytes = omega (arith, even, whole, c.loop-at-test.true) in (
      next,
      omega (arith, enough),
      room,
      c.strike-in-loop-at.ensures start bytes i.3 (λ k less. later_entered start at k bytes c.ranges.start.fits enough less),
    )

pub returns : goal.returns
returns c = λ count is.
    let at : ℕ = c.loop-at.at in
    let i = c.loop-at.invariant in
    let all : at ≡ count = omega (arith, i.2, is, c.loop-at-test.false) in
    subst (λ n. HasDigits c.args.start c.args.bytes.now n c.loop-at.digits) all i.3

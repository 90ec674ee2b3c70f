use Rattle.std.proofs.Common.{◌+◌, ◌<◌, arith}
use Rattle.clay_aloof.proofs.Many.{too_many}
use Rattle.clay_aloof.proofs.aloof_geometry.AloofGeometry.new.Goals as goal

pub returns-then-k-gt-MAX_DATA-clause-refused : goal.returns-then-k-gt-MAX_DATA-clause-refused
returns-then-k-gt-MAX_DATA-clause-refused c =
    let low : c.args.k < c.args.d = omega (arith, c.if-d-k.false) in
    let high : c.args.d < c.args.k + c.args.m = omega (arith, low, c.if-d-k-2.false) in (
      (c.if-k-lt-MIN_DATA.false, c.if-m-lt-MIN_PARITY.false, c.if-m-gt-MAX_PARITY.false, low, high),
      too_many c.args.k c.args.m c.args.d c.args.w c.if-k-gt-MAX_DATA.true low high c.if-m-gt-MAX_PARITY.false,
    )

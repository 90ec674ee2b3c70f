use Rattle.std.proofs.Common.{◌≡◌, ℕ, ◌+◌, ◌-◌, ◌≤◌, length, arith}
use Rattle.crc64.specs.Folding.{span}
use Rattle.crc64.proofs.folding.fold.Goals as goal

pub returns-clause-sum : goal.returns-clause-sum
returns-clause-sum c =
    let bytes = c.args.bytes.now in
    let count : ℕ = length bytes - span in
    let long : span + 32 ≤ length bytes = c.requires.long in
    let is : span + count ≡ length bytes = omega (arith, long) in
    c.leave.ensures c.args.start count c.ranges.start.fits (omega (arith, long)) is (c.strike_all.ensures count is)

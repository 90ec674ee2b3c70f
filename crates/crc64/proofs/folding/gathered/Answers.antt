use Rattle.std.proofs.Common.{ℕ, [], get_or}
use Rattle.crc64.proofs.Struck.{gathers_none}
use Rattle.crc64.proofs.folding.gathered.Goals as goal

pub returns : goal.returns
returns c =
    let byte : ℕ → ℕ = λ k. get_or c.args.lanes k 0 in
    c.added.ensures _ byte
    (c.added-sum-10.ensures _ byte (c.added-sum-9.ensures _ byte (c.added-sum-8.ensures _ byte (c.added-sum-7.ensures _ byte (c.added-sum-6.ensures _ byte (c.added-sum-5.ensures _ byte (c.added-sum-4.ensures _ byte (c.added-sum-3.ensures _ byte (c.added-sum-2.ensures _ byte (c.added-sum.ensures [] byte
    (gathers_none c.args.lanes c.args.history.now c.fits-lanes.0)))))))))))

use Rattle.std.proofs.Common.{◌*◌, ◌≤◌, arith}
use Rattle.std.proofs.lemmas.Nat.{mul-le}
use Rattle.clay_c.proofs.piece_starts.piece_start.Goals as goal

pub overflow_mul-result : goal.overflow_mul-result
overflow_mul-result c =
    let all : c.args.place * c.args.len ≤ 4294967295 * 4294967295 = mul-le c.args.place c.args.len 4294967295 4294967295 (omega (arith, c.requires)) (omega (arith, c.ranges.len.fits)) in
    omega (arith, all)

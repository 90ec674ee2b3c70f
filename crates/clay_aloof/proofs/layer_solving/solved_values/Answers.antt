use Rattle.std.proofs.Common.{◌*◌, ◌≤◌, arith}
use Rattle.std.proofs.lemmas.Nat.{mul-le}
use Rattle.clay_aloof.proofs.layer_solving.solved_values.Goals as goal

pub overflow_mul-len : goal.overflow_mul-len
overflow_mul-len c =
    let layers : c.len.result ≤ 1024 = omega (arith, c.len.ensures, c.requires.plan.few_layers, c.requires.plan.geometry.limits.layers) in
    let points : c.len-2.result ≤ 8 = omega (arith, c.len-2.ensures, c.requires.plan.few) in
    let width : c.w-w.result ≤ 65536 = omega (arith, c.w-w.ensures.value, c.requires.plan.geometry.limits.width.1) in
    let part : c.len-2.result * c.w-w.result ≤ 8 * 65536 = mul-le c.len-2.result c.w-w.result 8 65536 points width in
    let all : c.len.result * (c.len-2.result * c.w-w.result) ≤ 1024 * (8 * 65536) = mul-le c.len.result (c.len-2.result * c.w-w.result) 1024 (8 * 65536) layers part in
    omega (arith, all)

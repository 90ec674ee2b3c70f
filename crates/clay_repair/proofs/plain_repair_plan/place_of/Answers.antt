use Rattle.std.proofs.Common.{◌<◌, arith}
use Rattle.clay_grid.specs.Shape.{row_count}
use Rattle.code_laws.proofs.Places.{stands_with_digit}
use Rattle.clay_repair.proofs.plain_repair_plan.place_of.Goals as goal

pub returns-clause-within : goal.returns-clause-within
returns-clause-within c =
    let rows : 0 < row_count c.args.g = omega (arith, c.q.ensures.geometry.limits.parity_chunks.0) in
    (stands_with_digit c.args.g c.args.y c.args.z c.stride-stride.result c.q.result rows c.requires.column c.requires.layer c.stride-stride.ensures.value c.q.ensures.value).within

pub returns-clause-place : goal.returns-clause-place
returns-clause-place c =
    let rows : 0 < row_count c.args.g = omega (arith, c.q.ensures.geometry.limits.parity_chunks.0) in
    (stands_with_digit c.args.g c.args.y c.args.z c.stride-stride.result c.q.result rows c.requires.column c.requires.layer c.stride-stride.ensures.value c.q.ensures.value).is

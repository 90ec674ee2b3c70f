use Rattle.std.proofs.Common.{ℕ, ◌+◌, ◌*◌, ◌/◌, ◌%◌, ◌<◌, get_or, subst, arith}
use Rattle.code_laws.specs.Columns.{HoldsPieces}
use Rattle.clay_parity.specs.Solved.{layer_value}
use Rattle.clay_parity.proofs.GroupLaws.{transposed}
use Rattle.clay_parity.proofs.parity_layers.solve_short.Goals as goal

pub returns : goal.returns
returns c =
    let g = c.args.g in
    let p : ℕ = g.parity_count in
    let w : ℕ = g.width in
    let q = c.q-q.result in
    let rows = c.solve_rows.new.rows in
    let out = c.transpose.new.out in
    let some : 0 < p = let least = c.q-q.ensures.geometry.limits.parity_chunks.0 in omega arith in
    let pieces : HoldsPieces (p * w) p (λ x o. get_or rows ((o / w * p + x) * w + o % w) 0) out =
    subst (λ n. HoldsPieces (n * w) n (λ x o. get_or rows ((o / w * n + x) * w + o % w) 0) out) c.q-q.ensures.value
    (subst (λ v. HoldsPieces (q * v) q (λ x o. get_or rows ((o / v * q + x) * v + o % v) 0) out) c.w-w.ensures.value c.transpose.ensures) in
    transposed p w c.args.number (layer_value g c.args.generator.now.each c.args.stripe.now) rows out some c.requires.short c.solve_rows.ensures pieces

use Rattle.std.proofs.Common.{◌≡◌, ◌*◌, ◌/◌, ◌%◌, [], get_or, subst, arith}
use Rattle.clay_grid.specs.Shape.{row_count, layer_count}
use Rattle.clay_parity.specs.Blocks.{Appends, coupled_of}
use Rattle.clay_model.specs.Chunks.{contents}
use Rattle.clay_parity.specs.Solved.{layer_value}
use Rattle.clay_parity.proofs.ShortLemmas.{Appends-short}
use Rattle.clay_parity.proofs.parity_layers.add_short_groups.Goals as goal

pub loop-number-preserved : goal.loop-number-preserved
loop-number-preserved c = λ x h.
    let g = c.args.g in
    Appends-short g.parity_count g.width c.loop-number.number (layer_value g c.args.generator.now.each c.args.stripe.now) c.solve_rows.new.rows x
    (get_or (contents c.args.chunks.now) x []) (get_or (contents c.loop-number.chunks) x []) (get_or (contents c.add_short_group.new.chunks) x [])
    (let some = c.q.ensures.geometry.limits.width.0 in omega arith) h c.solve_rows.ensures (c.loop-number.invariant x h) (c.in_ok-add_short_group.ensures x h)

pub returns : goal.returns
returns c = λ x h.
    let g = c.args.g in
    let value = layer_value g c.args.generator.now.each c.args.stripe.now in
    let end_is : c.alpha.result / c.q.result ≡ layer_count g / row_count g = λ i. c.alpha.ensures.value i / c.q.ensures.value i in
    let all : c.loop-number.number ≡ layer_count g / row_count g = omega (arith, c.loop-number-test.false, end_is) in
    subst (λ n. Appends (n * (g.parity_count * g.width)) (λ o. coupled_of g.parity_count value x (o / g.width) (o % g.width))
    (get_or (contents c.args.chunks.now) x []) (get_or (contents c.loop-number.chunks) x [])) all (c.loop-number.invariant x h)

use Rattle.std.proofs.Common.{◌≡◌, ◌/◌, subst, arith}
use Rattle.clay_grid.specs.Shape.{row_count, layer_count}
use Rattle.clay_parity.specs.Solved.{layer_value}
use Rattle.clay_parity.specs.Blocks.{piece_bytes}
use Rattle.clay_parity.specs.Flat.{HoldsGroups}
use Rattle.clay_parity.proofs.ChunkLists.{group_bytes}
use Rattle.clay_parity.proofs.FlatLemmas.{groups_more}
use Rattle.clay_parity.proofs.flat.write_long_groups.Goals as goal

pub loop-number-preserved : goal.loop-number-preserved
loop-number-preserved c =
    let g = c.args.g in
    let value = layer_value g c.args.generator.now.each c.args.stripe.now in
    let wide = c.q.ensures.geometry.limits.width.0 in
    groups_more g value c.loop-number.number (piece_bytes g.parity_count g.width c.solve_layers.new.group) c.loop-number.out c.write_long_group.new.out
    (λ x o hx ho. group_bytes g.parity_count g.width c.loop-number.number value c.solve_layers.new.group x o (omega arith) hx ho c.solve_layers.ensures)
    c.loop-number.invariant c.write_long_group.ensures

pub returns : goal.returns
returns c =
    let g = c.args.g in
    let value = layer_value g c.args.generator.now.each c.args.stripe.now in
    let end_is : c.alpha.result / c.q.result ≡ layer_count g / row_count g = λ i. c.alpha.ensures.value i / c.q.ensures.value i in
    let all : c.loop-number.number ≡ layer_count g / row_count g = omega (arith, c.loop-number-test.false, end_is) in
    subst (λ n. HoldsGroups g value n c.loop-number.out) all c.loop-number.invariant

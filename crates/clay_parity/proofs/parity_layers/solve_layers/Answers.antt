use Rattle.std.proofs.Common.{◌≡◌, ℕ, subst, ◌+◌, ◌-◌, ◌*◌, ◌<◌, ◌≤◌, length, take, drop, sym, ap, ◌∙◌, arith}
use Rattle.std.proofs.lemmas.List.Edits.{length-between}
use borrow.Rule.Slice.PartMut.{put_mid}
use Rattle.code_laws.proofs.Pieces.{piece_fits}
use Rattle.clay_parity.specs.Solved.{layer_value}
use Rattle.clay_parity.specs.Blocks.{HoldsLayer, HoldsGroup}
use Rattle.clay_parity.proofs.BlockPlaces.{HoldsGroup-more}
use Rattle.clay_parity.proofs.parity_layers.solve_layers.Goals as goal

pub slice_bounds-solve_layer-end : goal.slice_bounds-solve_layer-end
slice_bounds-solve_layer-end c =
    let g = c.args.g in
    let part : c.m.result * c.w.result ≡ g.parity_count * g.width = λ i. c.m.ensures.value i * c.w.ensures.value i in
    let below : c.loop-digit.digit < g.parity_count = subst (λ n. c.loop-digit.digit < n) c.q-digit-end.ensures.value c.loop-digit-test.true in
    let fits = piece_fits c.loop-digit.digit g.parity_count (g.parity_count * g.width) below in
    let same : c.loop-digit.digit * (c.m.result * c.w.result) + c.m.result * c.w.result ≡ c.loop-digit.digit * (g.parity_count * g.width) + g.parity_count * g.width = ap (λ p. c.loop-digit.digit * p + p) part in
    let ends : c.loop-digit.digit * (c.m.result * c.w.result) + c.m.result * c.w.result ≤ length c.loop-digit.group = omega (arith, c.loop-digit.auto.group, c.requires.group_len) in
    ends

pub loop-digit-preserved : goal.loop-digit-preserved
loop-digit-preserved c =
    let g = c.args.g in
    let m : ℕ = g.parity_count in
    let w : ℕ = g.width in
    let d = c.loop-digit.digit in
    let group = c.loop-digit.group in
    let layer = c.solve_layer.new.layer in
    let value = layer_value g c.args.generator.now.each c.args.stripe.now in
    let part : m * w ≡ c.m.result * c.w.result = λ i. sym c.m.ensures.value i * sym c.w.ensures.value i in
    let below : d < m = subst (λ n. d < n) c.q-digit-end.ensures.value c.loop-digit-test.true in
    let fits = piece_fits d m (m * w) below in
    let group_long : length group ≡ m * (m * w) = c.loop-digit.auto.group ∙ c.requires.group_len in
    let width : d * (m * w) + m * w - d * (m * w) ≡ m * w = omega arith in
    let layer_long : length layer ≡ m * w =
    c.solve_layer.auto.layer
    ∙ (λ i. length (take (d * sym part i + sym part i - d * sym part i) (drop (d * sym part i) group)))
    ∙ length-between group (d * (m * w)) (d * (m * w) + m * w) (omega arith) ∙ width in
    let new : HoldsLayer m w w (value (c.args.number * m + d)) layer =
    subst (λ q. HoldsLayer m w w (value (c.args.number * q + d)) layer) c.q.ensures.value c.solve_layer.ensures in
    subst (λ p. HoldsGroup m w c.args.number (d + 1) value (put_mid (d * p) (d * p + p - d * p) group layer)) part
    (HoldsGroup-more m w c.args.number d (d * (m * w) + m * w - d * (m * w)) value group layer (omega arith) layer_long new c.loop-digit.invariant)

use Rattle.std.proofs.Common.{◌≡◌, ℕ, ◌+◌, ◌-◌, ◌*◌, ◌%◌, ◌<◌, ◌≤◌, min, length, get_or, take, drop, subst, sym, ap, ◌∙◌, arith}
use Rattle.std.proofs.lemmas.Nat.{mul-le}
use Rattle.std.proofs.lemmas.List.{length-take-le}
use Rattle.std.proofs.lemmas.List.Edits.{length-between}
use borrow.Rule.Slice.PartMut.{put_mid}
use Rattle.clay_grid.specs.Layers.{layer_of}
use Rattle.clay_parity.specs.Solved.{solved_value}
use Rattle.clay_parity.specs.Blocks.{HoldsLayer}
use Rattle.clay_parity.proofs.BlockPlaces.{HoldsLayer-more}
use Rattle.clay_parity.proofs.parity_layers.solve_layer.Goals as goal

pub slice_bounds-solve_block-end-in-loop-at-3 : goal.slice_bounds-solve_block-end-in-loop-at-3
slice_bounds-solve_block-end-in-loop-at-3 c =
    let m = c.m-m.result in
    let at = c.loop-at.at in
    let end = c.min-end.result in
    let blocks : m * (at + (end - at)) ≤ m * c.w-w.result = mul-le m (at + (end - at)) m c.w-w.result (omega arith) (omega arith) in
    let whole : m * c.w-w.result ≡ c.args.g.parity_count * c.args.g.width = λ i. c.m-m.ensures.value i * c.w-w.ensures.value i in
    let ends : m * at + m * (end - at) ≤ length c.loop-at.layer = omega arith in
    ends

pub loop-at-preserved : goal.loop-at-preserved
loop-at-preserved c =
    let g = c.args.g in
    let p : ℕ = g.parity_count in
    let w : ℕ = g.width in
    let at = c.loop-at.at in
    let end = c.min-end.result in
    let len : ℕ = end - at in
    let layer = c.loop-at.layer in
    let rows = c.solve_block.new.rows in
    let value : ℕ → ℕ → ℕ = λ e b. solved_value g c.args.generator.now.each c.args.stripe.now b e (layer_of g c.args.z) in
    let m_is = c.m-m.ensures.value in
    let below : at < w = subst (λ n. at < n) c.w-w.ensures.value c.loop-at-test.true in
    let even : at % 4096 ≡ 0 = c.loop-at.invariant.even below in
    let end_is : end ≡ min (at + 4096) w = c.min-end.ensures ∙ ap (min (at + 4096)) c.w-w.ensures.value in
    let size : len ≡ min 4096 (w - at) = omega arith in
    let whole : at + len ≡ end = omega arith in
    let blocks : p * (at + len) ≤ p * w = mul-le p (at + len) p w (omega arith) (omega arith) in
    let layer_long : length layer ≡ p * w = c.loop-at.auto.layer ∙ c.requires.layer_len in
    let fits : p * at ≤ length layer = omega arith in
    let width : p * at + p * len - p * at ≡ p * len = omega arith in
    let rows_long : length rows ≡ p * len =
    c.solve_block.auto.rows
    ∙ (λ i. length (take (m_is i * at + m_is i * len - m_is i * at) (drop (m_is i * at) layer)))
    ∙ length-between layer (p * at) (p * at + p * len) (omega arith) ∙ width in
    let values_long : length (take len c.loop-at.values) ≡ len = length-take-le len c.loop-at.values (omega (arith, c.loop-at.auto.values, c.requires.values_len)) in
    let new : (e b : ℕ) → e < p → b < len → get_or rows (e * len + b) 0 ≡ value e (at + b) =
    subst (λ n. (e b : ℕ) → e < p → b < n → get_or rows (e * n + b) 0 ≡ value e (at + b)) values_long c.solve_block.ensures in
    record {
      within = omega arith;
      even = λ h. omega arith;
      holds =
          subst (λ n. HoldsLayer p w n value (put_mid (c.m-m.result * at) (c.m-m.result * at + c.m-m.result * len - c.m-m.result * at) layer rows)) whole
          (subst (λ m. HoldsLayer p w (at + len) value (put_mid (m * at) (m * at + m * len - m * at) layer rows)) (sym m_is)
          (HoldsLayer-more p w at len (p * at + p * len - p * at) value layer rows even (omega arith) size fits rows_long new c.loop-at.invariant.holds));
    }

use Rattle.std.proofs.Common.{◌≡◌, ℕ, ◌+◌, ◌-◌, ◌%◌, ◌<◌, ◌++◌, min, length, take, subst, sym, ap, ◌∙◌, arith, bit_xor}
use Rattle.std.proofs.lemmas.Bool.{cond-true, cond-false, eq-eqb, ne_eqb}
use Rattle.std.proofs.lemmas.List.{length-take-le}
use Rattle.clay_field.specs.Field.{product, quotient}
use Rattle.clay_parity.specs.Blocks.{Appends, coupled_byte}
use Rattle.clay_parity.proofs.BlockPlaces.{Appends-more}
use Rattle.clay_parity.proofs.parity_layers.add_piece.Goals as goal

pub loop-at-preserved-in_ok-extend_from_slice : goal.loop-at-preserved-in_ok-extend_from_slice
loop-at-preserved-in_ok-extend_from_slice c =
    let g = c.args.g in
    let w : ℕ = g.width in
    let at = c.loop-at.at in
    let end = c.min-end.result in
    let len : ℕ = end - at in
    let value = coupled_byte g.parity_count w c.args.group.now c.args.x c.args.digit in
    let old = c.args.chunk.now.items in
    let mid = c.loop-at.chunk.items in
    let own = c.block-own.result.now in
    let below : at < w = subst (λ n. at < n) c.w-w.ensures.value c.loop-at-test.true in
    let even : at % 4096 ≡ 0 = c.loop-at.invariant.even below in
    let end_is : end ≡ min (at + 4096) w = c.min-end.ensures ∙ ap (min (at + 4096)) c.w-w.ensures.value in
    let whole : at + len ≡ end = omega arith in
    record {
      within = omega arith;
      even = λ h. omega arith;
      appends =
          subst (Appends end value old) (sym c.in_ok-extend_from_slice.ensures.items)
          (subst (λ n. Appends n value old (mid ++ own)) whole
          (Appends-more at len value old mid own c.block-own.ensures.len
          (λ b h. c.block-own.ensures.bytes b h ∙ sym (cond-true _ _ _ (eq-eqb c.args.x c.args.digit c.if-x-digit.true)))
          c.loop-at.invariant.appends));
    }

pub loop-at-preserved : goal.loop-at-preserved
loop-at-preserved c =
    let g = c.args.g in
    let w : ℕ = g.width in
    let at = c.loop-at.at in
    let end = c.min-end.result in
    let len : ℕ = end - at in
    let value = coupled_byte g.parity_count w c.args.group.now c.args.x c.args.digit in
    let old = c.args.chunk.now.items in
    let mid = c.loop-at.chunk.items in
    let new = c.couple.new.out in
    let below : at < w = subst (λ n. at < n) c.w-w.ensures.value c.loop-at-test.true in
    let even : at % 4096 ≡ 0 = c.loop-at.invariant.even below in
    let end_is : end ≡ min (at + 4096) w = c.min-end.ensures ∙ ap (min (at + 4096)) c.w-w.ensures.value in
    let whole : at + len ≡ end = omega arith in
    let room : length (take len c.loop-at.values) ≡ len = length-take-le len c.loop-at.values (omega (arith, c.loop-at.auto.values, c.requires.values_len)) in
    let new_long : length new ≡ len = c.couple.auto.out ∙ room in
    record {
      within = omega arith;
      even = λ h. omega arith;
      appends =
          subst (Appends end value old) (sym c.in_ok-extend_from_slice-2.ensures.items)
          (subst (λ n. Appends n value old (mid ++ new)) whole
          (Appends-more at len value old mid new new_long
          (λ b h.
          c.couple.ensures b (subst (λ n. b < n) (sym new_long) h)
          ∙ (λ i. quotient (bit_xor (c.block-own.ensures.bytes b h i) (product 2 (c.block.ensures.bytes b h i))) 5)
          ∙ sym (cond-false _ _ _ (ne_eqb c.args.x c.args.digit c.if-x-digit.false)))
          c.loop-at.invariant.appends));
    }

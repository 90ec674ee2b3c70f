use Rattle.std.proofs.Common.{◌≡◌, ℕ, ◌+◌, ◌-◌, ◌%◌, ◌<◌, min, length, subst, sym, ap, ◌∙◌, arith}
use Rattle.std.proofs.lemmas.List.Edits.{length-between}
use Rattle.clay_parity.specs.Blocks.{coupled_byte}
use Rattle.clay_parity.proofs.FlatLemmas.{one_more_part}
use Rattle.clay_parity.proofs.flat.write_piece.Goals as goal

pub loop-at-preserved : goal.loop-at-preserved
loop-at-preserved c =
    let g = c.args.g in
    let w : ℕ = g.width in
    let at = c.loop-at.at in
    let end = c.min-end.result in
    let len : ℕ = end - at in
    let value = coupled_byte g.parity_count w c.args.group.now c.args.x c.args.digit in
    let out = c.loop-at.out in
    let new = c.write_block.new.out in
    let below : at < w = subst (λ n. at < n) c.w-w.ensures.value c.loop-at-test.true in
    let even : at % 4096 ≡ 0 = c.loop-at.invariant.even below in
    let end_is : end ≡ min (at + 4096) w = c.min-end.ensures ∙ ap (min (at + 4096)) c.w-w.ensures.value in
    let whole : at + len ≡ end = omega arith in
    let out_long : length out ≡ w = c.loop-at.auto.out ∙ c.requires.out_len in
    let room = length-between out at end (omega arith) in
    let long : length new ≡ len = c.write_block.auto.out ∙ room in
    record {
      within = omega arith;
      even = λ h. omega arith;
      written = λ b h. one_more_part at len len value out new (omega arith) long c.loop-at.invariant.written
          (λ o ho. c.write_block.ensures o (subst (λ n. o < n) (sym room) ho)) b (subst (λ n. b < n) (sym whole) h);
    }

use Rattle.std.proofs.Common.{◌+◌, ◌*◌, ◌-◌, ◌%◌, ◌<◌, ◌≤◌, List, length, subst, ◌∙◌, arith}
use borrow.Rule.Slice.PartMut.{same_len_mid}
use Rattle.std.proofs.lemmas.List.FromFn.{fill_by_all}
use Rattle.client_patch.proofs.Ramps.{from_skipped}
use Rattle.client_patch.proofs.Periods.{next_block}
use Rattle.client_patch.proofs.bytes.copy_periods.Goals as goal

pub loop-block-preserved : goal.loop-block-preserved
loop-block-preserved c = λ i below inside.
    let w = c.loop-block in
    let start : w.block * 256 ≤ length w.piece = omega (arith, c.div_ceil-block-end.ensures, c.loop-block-test.true, w.auto.piece) in
    let few : c.min-len.result ≤ 256 = omega (arith, c.min-len.ensures) in
    let kept = same_len_mid (w.block * 256) (w.block * 256 + c.min-len.result - w.block * 256) w.piece c.copy_from_slice.new.self c.copy_from_slice.ensures.len in
    let there : i < length w.piece = subst (λ n. i < n) kept inside in
    let within : i < w.block * 256 + c.min-len.result = omega (arith, below, there, c.min-len.ensures) in
    next_block c.args.first c.args.skipped w.block _ c.min-len.result w.piece c.count_from.new.piece c.copy_from_slice.new.self c.count_from.ensures few
    c.copy_from_slice.ensures.after start
    (λ j h. w.invariant j h (omega (arith, h, start))) i within

pub returns : goal.returns
returns c =
    let w = c.loop-block in
    fill_by_all (λ i. (c.args.first + (c.args.skipped + i)) % 256) w.piece (length c.args.piece.now) 0 w.auto.piece
    (λ k h. w.invariant k (omega (arith, h, c.div_ceil-block-end.ensures, c.loop-block-test.false, w.auto.piece)) (omega (arith, h, w.auto.piece)))
    ∙ from_skipped c.args.first c.args.skipped (length c.args.piece.now)

use Rattle.std.proofs.Common.{length, ◌∙◌, ap, arith}
use Rattle.clay_field.specs.Field.{product}
use Rattle.clay_kernels.proofs.ProgressLemmas.{IsDone-one}
use Rattle.clay_kernels.proofs.slice_coupling.scale.Goals as goal

pub loop-at-preserved : goal.loop-at-preserved
loop-at-preserved c =
    let i = c.loop-at.invariant in
    let long = i.long in
    let below = c.loop-at-test.true in
    IsDone-one 0 c.loop-at.at (length c.args.bytes.now) _ _ _ c.times.result (omega arith) i (c.times.ensures ∙ ap (product c.args.p.now) (i.left c.loop-at.at (omega arith)))

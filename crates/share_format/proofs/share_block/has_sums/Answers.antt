use Rattle.std.proofs.Common.{◌+◌, refl}
use Rattle.share_format.proofs.Fronts.{each_more}
use Rattle.share_format.proofs.share_block.has_sums.Goals as goal

pub loop-layer-preserved : goal.loop-layer-preserved
loop-layer-preserved c =
    let layer = c.loop-layer.layer in
    each_more c.args.g c.args.chunk.now c.args.front.now layer (layer + 1) c.loop-layer.invariant (c.if-not-has_sum.ensures.0 refl) refl

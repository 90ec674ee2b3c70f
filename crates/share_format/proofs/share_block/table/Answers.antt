use Rattle.std.proofs.Common.{◌++◌, ◌∙◌}
use Rattle.byteorder.specs.Endian.{little_bytes}
use Rattle.share_format.proofs.Laid.{one_more}
use Rattle.share_format.proofs.share_block.table.Goals as goal

pub loop-layer-preserved : goal.loop-layer-preserved
loop-layer-preserved c =
    c.in_ok-put_u64.ensures ∙ (λ i. c.loop-layer.invariant i ++ little_bytes 8 (c.sum.ensures i))
    ∙ one_more c.args.g c.args.chunk.now c.loop-layer.layer

use Rattle.share_format.proofs.Laid.{block_is, behind_long}
use Rattle.share_format.proofs.share_block.is_block.Goals as goal

pub is_front-requires-clause-chunk : goal.is_front-requires-clause-chunk
is_front-requires-clause-chunk c = behind_long c.args.g c.args.block.now c.chunk_start-start.result c.chunk_start-start.ensures c.requires

pub returns : goal.returns
returns c =
    let is = block_is c.args.g c.args.block.now c.chunk_start-start.result c.chunk_start-start.ensures c.requires in
    ((λ t. is.0 (c.is_front.ensures.0 t)), (λ b. c.is_front.ensures.1 (is.1 b)))

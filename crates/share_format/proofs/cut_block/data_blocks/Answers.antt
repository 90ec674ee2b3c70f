use Rattle.std.proofs.Common.{◌*◌, ◌++◌, map, sym, ap, ◌∙◌}
use Rattle.clay_grid.specs.Shape.{chunk_length}
use Rattle.clay_model.specs.Chunks.{contents}
use Rattle.clay_aloof.specs.Shape.{grid_of}
use Rattle.clay_aloof.specs.Encoded.{chunks_in}
use Rattle.share_format.specs.Blocks.{block_of}
use Rattle.share_format.proofs.cut_block.data_blocks.Goals as goal

pub push_blocks-requires : goal.push_blocks-requires
push_blocks-requires c = c.requires ∙ ap (λ n. n * chunk_length (grid_of c.args.g)) (sym c.k.ensures.value)

pub returns : goal.returns
returns c =
    let g = c.args.g in
    c.in_ok-push_blocks.ensures
    ∙ (λ i. contents (c.in_ok-blocks.ensures.items i) ++ map (block_of g) (chunks_in (c.k.ensures.value i) (chunk_length (grid_of g)) c.args.stripe.now))

use Rattle.std.proofs.Common.{◌*◌, ◌++◌, length, map, sym, ap, ◌∙◌}
use Rattle.clay_grid.specs.Shape.{chunk_length}
use Rattle.clay_model.specs.Chunks.{contents}
use Rattle.clay_aloof.specs.Shape.{grid_of}
use Rattle.clay_aloof.specs.Encoded.{chunks_in}
use Rattle.share_format.specs.Blocks.{block_of}
use Rattle.share_format.proofs.Coded.{all_blocks}
use Rattle.share_format.proofs.cut_block.cut_stripe.Goals as goal

pub push_blocks-requires : goal.push_blocks-requires
push_blocks-requires c =
    ap length c.deref.ensures.value ∙ c.in_ok-parity.ensures.len ∙ ap (λ n. n * chunk_length (grid_of c.args.g)) (sym c.m.ensures.value)

pub returns : goal.returns
returns c =
    let g = c.args.g in
    all_blocks g c.args.stripe.now c.in_ok-parity.parity.items (contents c.push_blocks.new.blocks.items) c.in_ok-parity.ensures.codes
    (c.in_ok-push_blocks.ensures
    ∙ (λ i. c.in_ok-blocks.ensures i ++ map (block_of g) (chunks_in (c.m.ensures.value i) (chunk_length (grid_of g)) (c.deref.ensures.value i))))

use Rattle.std.proofs.Common.{ℕ, List, ◌+◌, ◌*◌, [], ◌∷◌, ◌++◌, slice_range, sym, ap, ◌∙◌, append-nil, append_assoc}
use Rattle.clay_model.specs.Chunks.{contents}
use Rattle.code_laws.proofs.Lists.{contents_push}
use Rattle.share_format.specs.Blocks.{block_of}
use Rattle.share_format.proofs.Coded.{blocks_in, next_block}
use Rattle.share_format.proofs.cut_block.push_blocks.Goals as goal

pub loop-number-init : goal.loop-number-init
loop-number-init c = sym (append-nil (contents c.args.blocks.now.items))

pub loop-number-preserved : goal.loop-number-preserved
loop-number-preserved c =
    let g = c.args.g in
    let bytes = c.args.bytes.now in
    let number : ℕ = c.loop-number.number in
    let old : List (List ℕ) = contents c.args.blocks.now.items in
    ap contents c.in_ok-push.ensures.items
    ∙ contents_push c.loop-number.blocks.items c.in_ok-block.block
    ∙ (λ i. c.loop-number.invariant i ++ c.in_ok-block.ensures i ∷ [])
    ∙ (λ i. (old ++ blocks_in g number bytes) ++ block_of g (slice_range bytes (number * c.chunk_len-len.ensures.value i) (number * c.chunk_len-len.ensures.value i + c.chunk_len-len.ensures.value i)) ∷ [])
    ∙ append_assoc old (blocks_in g number bytes) _
    ∙ ap (λ l. old ++ l) (next_block g bytes number)

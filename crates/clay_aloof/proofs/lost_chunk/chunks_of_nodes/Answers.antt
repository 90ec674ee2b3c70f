use Rattle.std.proofs.Common.{◌+◌, get_or, None, length, sym, subst, ap, ◌∙◌}
use Rattle.std.proofs.lemmas.List.{length_push}
use Rattle.clay_aloof.specs.Rebuilt.{IsEntry}
use Rattle.clay_aloof.proofs.KnownBytes.{entries_more}
use Rattle.clay_aloof.proofs.lost_chunk.chunks_of_nodes.Goals as goal

pub loop-node-preserved : goal.loop-node-preserved
loop-node-preserved c =
    let g = c.args.g in
    let before = c.loop-node.chunks.items in
    let items = c.in_ok-push.ensures.items in (
      ap length items ∙ length_push before c.chunk_of.result ∙ ap (λ n. n + 1) c.loop-node.invariant.0,
      λ i h. subst (λ l. IsEntry g i (get_or l i None)) (sym items)
          (entries_more g before c.chunk_of.result c.loop-node.node c.loop-node.invariant.0 c.loop-node.invariant.1 c.chunk_of.ensures i h),
    )

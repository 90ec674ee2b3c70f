use Rattle.std.proofs.Common.{◌+◌, ◌*◌, [], ◌∷◌, ◌++◌, slice_range, sym, ap, ◌∙◌, arith}
use Rattle.std.proofs.lemmas.List.FromFn.{map-range_with_len_more}
use Rattle.clay_model.specs.Chunks.{contents}
use Rattle.code_laws.proofs.Lists.{contents_push}
use Rattle.clay_aloof.proofs.aloof_chunks.split.Goals as goal

pub loop-c-preserved : goal.loop-c-preserved
loop-c-preserved c =
    let new = c.in_ok-from_slice.field-0 in
    let len = c.args.len in
    ap contents c.in_ok-push.ensures.items
    ∙ contents_push c.loop-c.chunks.items new
    ∙ (λ i. c.loop-c.invariant i ++ c.in_ok-from_slice.ensures.items i ∷ [])
    ∙ sym (map-range_with_len_more (λ k. slice_range c.args.bytes.now (k * len) (k * len + len)) 0 c.loop-c.c c.loop-c.c (omega arith))

use Rattle.std.proofs.Common.{◌++◌, drop, ap, ◌∙◌}
use Rattle.share_format.proofs.Laid.{rest_of}
use Rattle.share_format.proofs.join_block.push_present.Goals as goal

pub returns : goal.returns
returns c =
    let block = c.args.block.now in
    c.in_ok-extend_from_slice.ensures.items
    ∙ ap (λ l. c.args.chunks.now.items ++ l) (rest_of c.chunk_start-start.result block ∙ ap (λ n. drop n block) c.chunk_start-start.ensures)

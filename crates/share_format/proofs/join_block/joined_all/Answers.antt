use Rattle.std.proofs.Common.{take, ap, ◌∙◌}
use Rattle.share_format.proofs.Joining.{first_long, all_joined}
use Rattle.share_format.proofs.join_block.joined_all.Goals as goal

pub returns-clause-len : goal.returns-clause-len
returns-clause-len c =
    let chunks = c.in_ok-chunks.chunks.items in
    first_long c.args.g chunks c.truncate.new.self.items c.in_ok-chunks.ensures.len
    (c.truncate.ensures.items ∙ ap (λ n. take n chunks) c.stripe_len.ensures.value)

pub returns-clause-joined : goal.returns-clause-joined
returns-clause-joined c =
    let chunks = c.in_ok-chunks.chunks.items in
    all_joined c.args.g c.args.blocks.now chunks c.truncate.new.self.items c.in_ok-chunks.ensures.chunks
    (c.truncate.ensures.items ∙ ap (λ n. take n chunks) c.stripe_len.ensures.value)

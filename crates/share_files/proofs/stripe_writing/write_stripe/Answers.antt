use Rattle.std.proofs.Common.{◌≡◌, sym, ◌∙◌}
use Rattle.share_files.proofs.StripeLemmas.{blocks_count, block_size, stripe_gained}
use Rattle.share_files.proofs.stripe_writing.write_stripe.Goals as goal

pub write_blocks-requires-clause-shares : goal.write_blocks-requires-clause-shares
write_blocks-requires-clause-shares g c =
    let shown : c.deref.result.now ≡ c.in_ok-blocks.blocks.items = search in
    c.requires.shares ∙ sym (blocks_count c.args.geometry c.args.stripe.now c.deref.result.now c.in_ok-blocks.blocks.items shown c.in_ok-blocks.ensures)

pub write_blocks-requires-clause-sizes : goal.write_blocks-requires-clause-sizes
write_blocks-requires-clause-sizes g c =
    let shown : c.deref.result.now ≡ c.in_ok-blocks.blocks.items = search in
    block_size c.args.geometry c.args.stripe.now c.deref.result.now c.in_ok-blocks.blocks.items shown c.in_ok-blocks.ensures

pub returns-in-Ok-clause-written : goal.returns-in-Ok-clause-written
returns-in-Ok-clause-written g c =
    let shown : c.deref.result.now ≡ c.in_ok-blocks.blocks.items = search in
    stripe_gained c.args.geometry c.args.stripe.now c.deref.result.now c.in_ok-blocks.blocks.items shown c.in_ok-blocks.ensures c.args.number _ _
    c.in-Ok.ensures.written

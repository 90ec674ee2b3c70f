use Rattle.std.proofs.Common.{take, ap, ◌∙◌}
use Rattle.std.specs.List.{flat_map}
use Rattle.share_format.specs.Joined.{chunk_or_zeros}
use Rattle.share_format.proofs.join_block.recovered.Goals as goal

pub recover_all-requires-clause-chunks : goal.recover_all-requires-clause-chunks
recover_all-requires-clause-chunks c =
    c.deref_mut.ensures.value ∙ c.in_ok-chunks.ensures.value
    ∙ ap (λ n. flat_map (chunk_or_zeros c.args.g) (take n c.args.blocks.now)) c.n.ensures.value

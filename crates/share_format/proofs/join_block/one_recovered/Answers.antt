use Rattle.std.proofs.Common.{length, ap, ◌∙◌}
use Rattle.clay_aloof.specs.Recovered.{chunk_in}
use Rattle.share_format.proofs.join_block.one_recovered.Goals as goal

pub chunk_copy-requires-clause-chunks : goal.chunk_copy-requires-clause-chunks
chunk_copy-requires-clause-chunks c = ap length c.deref.ensures.value ∙ c.in_ok-chunks.ensures.len

pub returns-clause-recovered : goal.returns-clause-recovered
returns-clause-recovered c word codeword has =
    c.in_ok-chunk.ensures.chunk
    ∙ ap (λ l. chunk_in c.args.g l c.args.lost) c.deref.ensures.value
    ∙ c.in_ok-chunks.ensures.chunks word codeword has c.args.lost c.requires.chunk

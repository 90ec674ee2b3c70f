use Rattle.std.proofs.Common.{◌∙◌, bit_xor}
use Rattle.std.proofs.lemmas.Nat.{xor_comm}
use Rattle.crc64.proofs.Lookups.{block_after}
use Rattle.crc64.proofs.Crc64.after_block.Goals as goal

pub returns : goal.returns
returns c =
    xor_comm c.word_remainder.result c.word_remainder-2.result
    ∙ (λ i. bit_xor (c.word_remainder-2.ensures i) (c.word_remainder.ensures i))
    ∙ block_after c.args.register c.read_u64.result c.read_u64-second.result c.args.block.now c.requires (λ k. (c.type_inv.block k).fits)
    c.read_u64.ensures c.read_u64-second.ensures

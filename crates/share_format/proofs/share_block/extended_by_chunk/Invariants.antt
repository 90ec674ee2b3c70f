use Rattle.std.proofs.Common.{◌≡◌, ℕ, ◌*◌, List, ◌++◌, take, drop}
use Rattle.crc64.specs.Remainder.{checksum_of}
use Rattle.share_format.specs.Blocks.{chunk_start, IsBlock}
use Rattle.share_format.proofs.share_block.extended_by_chunk.Given as goal

abbrev pub invariant-loop-layer : goal.invariant-loop-layer
invariant-loop-layer l =
    (before : List ℕ) → l.fn.checksum ≡ checksum_of before → IsBlock l.fn.g l.block
    → l.sum ≡ checksum_of (before ++ take (l.layer * l.fn.g.width) (drop (chunk_start l.fn.g) l.block))

use Rattle.std.proofs.Common.{◌≡◌, take}
use Rattle.std.specs.List.{flat_map}
use Rattle.share_format.specs.Joined.{chunk_or_zeros}
use Rattle.share_format.proofs.join_block.gathered.Given as goal

abbrev pub invariant-loop-number : goal.invariant-loop-number
invariant-loop-number l = l.chunks.items ≡ flat_map (chunk_or_zeros l.g) (take l.number l.blocks)

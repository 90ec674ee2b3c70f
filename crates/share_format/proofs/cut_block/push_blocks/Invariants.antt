use Rattle.std.proofs.Common.{◌≡◌, ◌++◌}
use Rattle.clay_model.specs.Chunks.{contents}
use Rattle.share_format.proofs.Coded.{blocks_in}
use Rattle.share_format.proofs.cut_block.push_blocks.Given as goal

abbrev pub invariant-loop-number : goal.invariant-loop-number
invariant-loop-number l = contents l.blocks.items ≡ contents l.fn.blocks.items ++ blocks_in l.g l.number l.bytes

use Rattle.std.proofs.Common.{ℕ, ◌<◌, get_or}
use Rattle.share_format.specs.Blocks.{subchunk, HasChecksum}
use Rattle.share_format.proofs.mend_block.is_part.Given as goal

abbrev pub invariant-loop-number : goal.invariant-loop-number
invariant-loop-number l = (k : ℕ) → k < l.number → HasChecksum l.front (get_or l.layers k 0) (subchunk l.g l.part k)

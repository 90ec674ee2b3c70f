use Rattle.std.proofs.Common.{◌≡◌, ℕ, ◌<◌, length, get_or, false}
use Rattle.share_format.specs.Joined.{is_lost}
use Rattle.share_format.proofs.join_block.lost_marks.Given as goal

abbrev pub invariant-loop-block : goal.invariant-loop-block
invariant-loop-block l = (length l.lost.items ≡ l.block-index) × ((c : ℕ) → c < l.block-index → get_or l.lost.items c false ≡ is_lost l.blocks c)

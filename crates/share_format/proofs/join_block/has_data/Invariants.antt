use Rattle.std.proofs.Common.{◌≡◌, ℕ, ◌<◌, false}
use Rattle.share_format.specs.Joined.{is_lost}
use Rattle.share_format.proofs.join_block.has_data.Given as goal

abbrev pub invariant-loop-c : goal.invariant-loop-c
invariant-loop-c l = (i : ℕ) → i < l.c → is_lost l.blocks i ≡ false

use Rattle.std.proofs.Common.{◌≡◌, None, length, get_or, ℕ}
use Rattle.share_files.proofs.fetching.no_blocks.Given as goal

abbrev pub invariant-loop-share : goal.invariant-loop-share
invariant-loop-share l = record {
  count : length l.blocks.items ≡ l._share;
  none : (c : ℕ) → get_or l.blocks.items c None ≡ None;
}

use Rattle.std.proofs.Common.{◌≡◌, ◌≤◌, ◌<◌, ℕ, None, length, get_or}
use Rattle.share_format.specs.Joined.{is_lost}
use Rattle.share_files.specs.Missed.{missed_after}
use Rattle.share_files.proofs.missed.note_missed.Given as goal

abbrev pub invariant-loop-share : goal.invariant-loop-share
invariant-loop-share l = record {
  all : length l.missed ≡ length l.blocks;
  noted : (c : ℕ) → c < l.share → get_or l.missed c None ≡ missed_after (get_or l.fn.missed c None) l.stripe (is_lost l.blocks c);
  others : (c : ℕ) → l.share ≤ c → get_or l.missed c None ≡ get_or l.fn.missed c None;
}

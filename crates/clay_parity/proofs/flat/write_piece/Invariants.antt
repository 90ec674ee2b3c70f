use Rattle.std.proofs.Common.{◌≡◌, ℕ, ◌-◌, ◌%◌, ◌<◌, ◌≤◌, get_or}
use Rattle.clay_parity.specs.Blocks.{coupled_byte}
use Rattle.clay_parity.proofs.flat.write_piece.Given as goal

abbrev pub invariant-loop-at : goal.invariant-loop-at
invariant-loop-at l = record {
  within : l.at ≤ l.fn.g.width;
  even : l.at < l.fn.g.width → l.at % 4096 ≡ 0;
  written : (b : ℕ) → b < l.at → get_or l.out b 0 ≡ coupled_byte l.fn.g.parity_count l.fn.g.width l.group l.x l.digit b;
}

abbrev pub decreases-loop-at : goal.decreases-loop-at
decreases-loop-at l = l.w - l.at

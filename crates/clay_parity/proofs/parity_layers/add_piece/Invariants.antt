use Rattle.std.proofs.Common.{◌≡◌, ◌-◌, ◌%◌, ◌<◌, ◌≤◌}
use Rattle.clay_parity.specs.Blocks.{Appends, coupled_byte}
use Rattle.clay_parity.proofs.parity_layers.add_piece.Given as goal

abbrev pub invariant-loop-at : goal.invariant-loop-at
invariant-loop-at l = record {
  within : l.at ≤ l.fn.g.width;
  even : l.at < l.fn.g.width → l.at % 4096 ≡ 0;
  appends : Appends l.at (coupled_byte l.fn.g.parity_count l.fn.g.width l.group l.x l.digit) l.fn.chunk.items l.chunk.items;
}

abbrev pub decreases-loop-at : goal.decreases-loop-at
decreases-loop-at l = l.w - l.at

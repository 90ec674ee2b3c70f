use Rattle.std.proofs.Common.{◌≡◌, ℕ, ◌<◌, eqb, length, get_or, None, is_none}
use Rattle.clay_model.specs.Left.{AreLong}
use Rattle.clay_model.specs.RepairParts.{part_length}
use Rattle.lane_tests.proofs.fast_rebuilding.parts_of.Given as goal

abbrev pub invariant-loop-c : goal.invariant-loop-c
invariant-loop-c g l = record {
  count : length l.parts.items ≡ l.c;
  lengths : AreLong (part_length l.g) l.parts.items;
  none : (i : ℕ) → i < l.c → is_none (get_or l.parts.items i None) ≡ eqb i l.lost;
}

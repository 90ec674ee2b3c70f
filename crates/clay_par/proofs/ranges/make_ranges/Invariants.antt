use Rattle.std.proofs.Common.{ℕ, ◌-◌, ◌<◌, ◌≤◌, All}
use Rattle.clay_par.specs.Ranges.{HasRoom, IsCovered}
use Rattle.clay_par.proofs.ranges.make_ranges.Given as goal

abbrev pub invariant-loop-at : goal.invariant-loop-at
invariant-loop-at l = record {
  within : l.at ≤ l.fn.g.width;
  room : All (HasRoom l.fn.g l.nodes l.layers) l.ranges.items;
  all : (b : ℕ) → b < l.at → IsCovered l.ranges.items b;
}

abbrev pub decreases-loop-at : goal.decreases-loop-at
decreases-loop-at l = l.w - l.at

use Rattle.std.proofs.Common.{◌≡◌, ℕ, ◌+◌, ◌-◌, ◌<◌, ◌≤◌, get_or}
use Rattle.clay_grid.specs.Score.{score_at}
use Rattle.clay_par.proofs.scores.run_len.Given as goal

abbrev pub invariant-loop-count : goal.invariant-loop-count
invariant-loop-count l = record {
  some : 1 ≤ l.count;
  most : l.count ≤ l.most;
  same : (i : ℕ) → i < l.count → score_at l.g l.plan.erased.items (get_or l.plan.layers.items (l.from + i) 0) ≡ score_at l.g l.plan.erased.items (get_or l.plan.layers.items l.from 0);
}

abbrev pub decreases-loop-count : goal.decreases-loop-count
decreases-loop-count l = l.most - l.count

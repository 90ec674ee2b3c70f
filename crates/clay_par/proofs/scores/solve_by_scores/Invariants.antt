use Rattle.std.proofs.Common.{ℕ, ◌-◌, ◌≤◌, length}
use Rattle.clay_par.specs.Scores.{HoldsFirst}
use Rattle.clay_par.proofs.scores.solve_by_scores.Given as goal

abbrev pub invariant-loop-from : goal.invariant-loop-from
invariant-loop-from g l = record {
  inside : l.from ≤ length l.plan.layers.items;
  first : HoldsFirst l.g l.have l.plan l.at l.len l.from l.solved;
}

abbrev pub decreases-loop-from : goal.decreases-loop-from
decreases-loop-from g l = length l.plan.layers.items - l.from

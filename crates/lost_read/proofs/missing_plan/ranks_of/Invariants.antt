use Rattle.std.proofs.Common.{◌≡◌, ◌≤◌}
use Rattle.lost_layers.specs.ErasedRuns.{solved_of}
use Rattle.lost_read.specs.MissingPlan.{rank, AreRanks}
use Rattle.lost_read.proofs.missing_plan.ranks_of.Given as goal

abbrev pub invariant-loop-layer : goal.invariant-loop-layer
invariant-loop-layer l = AreRanks (solved_of l.run) l.layer l.ranks.items × (l.count ≡ rank (solved_of l.run) l.layer) × (l.count ≤ l.layer)

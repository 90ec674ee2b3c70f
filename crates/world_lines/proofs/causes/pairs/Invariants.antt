use Rattle.std.proofs.Common.{◌≡◌, map, take}
use Rattle.world_lines.proofs.causes.pairs.Given as goal

abbrev pub invariant-loop-change : goal.invariant-loop-change
invariant-loop-change l = l.pairs ≡ map (λ change. (change.looked_at.0, change.newer.0)) (take l.change-index l.changes)

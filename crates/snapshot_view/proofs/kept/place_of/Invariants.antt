use Rattle.std.proofs.Common.{◌≡◌, ◌≤◌, ◌-◌, length, drop, find, bytes_eq}
use Rattle.snapshot_view.specs.Snapshots.{KeptOf}
use Rattle.snapshot_view.proofs.kept.place_of.Given as goal

-- none of those before has the name
abbrev pub invariant-loop-at : goal.invariant-loop-at
invariant-loop-at l = (l.at ≤ length l.objects) × (find (λ (kept : KeptOf). bytes_eq l.name kept.name) l.objects ≡ find (λ (kept : KeptOf). bytes_eq l.name kept.name) (drop l.at l.objects))

abbrev pub decreases-loop-at : goal.decreases-loop-at
decreases-loop-at l = length l.objects - l.at

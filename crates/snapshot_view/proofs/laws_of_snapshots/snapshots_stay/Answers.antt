use Rattle.snapshot_view.proofs.Staying.{snapshots_stay}
use Rattle.snapshot_view.proofs.laws_of_snapshots.snapshots_stay.Goals as goal

pub returns : goal.returns
returns c = snapshots_stay

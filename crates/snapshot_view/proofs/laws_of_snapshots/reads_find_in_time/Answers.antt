use Rattle.snapshot_view.proofs.InTime.{reads_find_in_time as law}
use Rattle.snapshot_view.proofs.laws_of_snapshots.reads_find_in_time.Goals as goal

pub returns : goal.returns
returns c = law

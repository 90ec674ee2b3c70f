use Rattle.run_laws.proofs.Served.{steps_keep_served}
use Rattle.run_laws.proofs.laws_of_reads.pinned_bytes_stay_owed.Goals as goal

pub returns : goal.returns
returns c = steps_keep_served

use Rattle.session_rules.proofs.KeptReadsServed.{snap_reads_are_answered as law}
use Rattle.session_rules.proofs.laws_of_requests.snap_reads_are_answered.Goals as goal

pub returns : goal.returns
returns c = law

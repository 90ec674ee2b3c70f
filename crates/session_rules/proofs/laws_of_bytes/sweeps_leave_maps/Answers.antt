use Rattle.session_rules.proofs.Sweeps.{sweeps_leave_maps as law}
use Rattle.session_rules.proofs.laws_of_bytes.sweeps_leave_maps.Goals as goal

pub returns : goal.returns
returns c = law

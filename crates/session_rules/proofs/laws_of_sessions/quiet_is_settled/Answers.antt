use Rattle.session_rules.proofs.Settled.{quiet_is_settled as law}
use Rattle.session_rules.proofs.laws_of_sessions.quiet_is_settled.Goals as goal

pub returns : goal.returns
returns c = law

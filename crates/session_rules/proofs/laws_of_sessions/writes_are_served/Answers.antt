use Rattle.session_rules.proofs.WriteLaw.{writes_are_served as law}
use Rattle.session_rules.proofs.laws_of_sessions.writes_are_served.Goals as goal

pub returns : goal.returns
returns c = law

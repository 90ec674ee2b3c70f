use Rattle.session_rules.proofs.Beginnings.{beginnings_are_seen as law}
use Rattle.session_rules.proofs.laws_of_sessions.beginnings_are_seen.Goals as goal

pub returns : goal.returns
returns c = law

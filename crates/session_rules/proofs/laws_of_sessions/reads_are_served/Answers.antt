use Rattle.session_rules.proofs.ReadLaw.{reads_are_served as law}
use Rattle.session_rules.proofs.laws_of_sessions.reads_are_served.Goals as goal

pub returns : goal.returns
returns c = law

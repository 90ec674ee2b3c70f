use Rattle.session_rules.proofs.Singles.{stats_are_served as law}
use Rattle.session_rules.proofs.laws_of_sessions.stats_are_served.Goals as goal

pub returns : goal.returns
returns c = law

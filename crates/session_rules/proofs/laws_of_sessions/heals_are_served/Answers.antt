use Rattle.session_rules.proofs.HealAlone.{heals_are_served as law}
use Rattle.session_rules.proofs.laws_of_sessions.heals_are_served.Goals as goal

pub returns : goal.returns
returns c = law

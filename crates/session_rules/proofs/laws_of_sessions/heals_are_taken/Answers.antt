use Rattle.session_rules.proofs.HealTakes.{heals_are_taken as law}
use Rattle.session_rules.proofs.laws_of_sessions.heals_are_taken.Goals as goal

pub returns : goal.returns
returns c = law

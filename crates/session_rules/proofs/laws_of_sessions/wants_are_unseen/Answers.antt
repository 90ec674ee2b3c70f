use Rattle.session_rules.proofs.Wants.{wants_are_unseen as law}
use Rattle.session_rules.proofs.laws_of_sessions.wants_are_unseen.Goals as goal

pub returns : goal.returns
returns c = law

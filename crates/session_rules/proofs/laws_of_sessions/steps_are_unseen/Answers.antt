use Rattle.session_rules.proofs.Beside.{steps_are_unseen as law}
use Rattle.session_rules.proofs.laws_of_sessions.steps_are_unseen.Goals as goal

pub returns : goal.returns
returns c = law

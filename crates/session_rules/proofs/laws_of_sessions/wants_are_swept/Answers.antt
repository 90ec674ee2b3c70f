use Rattle.session_rules.proofs.WantsSettled.{wants_are_swept as law}
use Rattle.session_rules.proofs.laws_of_sessions.wants_are_swept.Goals as goal

pub returns : goal.returns
returns c = law

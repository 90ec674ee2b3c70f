use Rattle.session_rules.proofs.Garbage.{garbage_is_unseen as law}
use Rattle.session_rules.proofs.laws_of_sessions.garbage_is_unseen.Goals as goal

pub returns : goal.returns
returns c = law

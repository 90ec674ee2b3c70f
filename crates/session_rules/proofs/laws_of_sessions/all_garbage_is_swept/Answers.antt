use Rattle.session_rules.proofs.Quiet.{all_garbage_is_swept as law}
use Rattle.session_rules.proofs.laws_of_sessions.all_garbage_is_swept.Goals as goal

pub returns : goal.returns
returns c = law

use Rattle.frame_session.proofs.Written.{ample_sessions_are_those as law}
use Rattle.frame_session.proofs.laws_of_endings.ample_sessions_are_those.Goals as goal

pub returns : goal.returns
returns c = law

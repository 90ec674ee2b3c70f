use Rattle.frame_session.proofs.Written.{answers_are_cut as law}
use Rattle.frame_session.proofs.laws_of_endings.answers_are_cut.Goals as goal

pub returns : goal.returns
returns c = law

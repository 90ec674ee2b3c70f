use Rattle.frame_session.proofs.Bounded.{answers_fit as law}
use Rattle.frame_session.proofs.laws_of_endings.answers_fit.Goals as goal

pub returns : goal.returns
returns c = law

use Rattle.history_laws.proofs.AnsweredPoints.{answers_have_points}
use Rattle.history_laws.proofs.laws_of_history.answers_have_points.Goals as goal

pub returns : goal.returns
returns c = answers_have_points

use Rattle.history_laws.proofs.PointLines.{runs_have_points_in_time}
use Rattle.history_laws.proofs.laws_of_time.runs_have_points_in_time.Goals as goal

pub returns : goal.returns
returns c = runs_have_points_in_time

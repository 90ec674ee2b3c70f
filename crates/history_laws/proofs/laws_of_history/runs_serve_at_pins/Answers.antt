use Rattle.history_laws.proofs.ServedPoints.{runs_serve_at_pins}
use Rattle.history_laws.proofs.laws_of_history.runs_serve_at_pins.Goals as goal

pub returns : goal.returns
returns c = runs_serve_at_pins

use Rattle.history_laws.proofs.Overs.{enough_steps_end_calls}
use Rattle.history_laws.proofs.laws_of_answers.enough_steps_end_calls.Goals as goal

pub returns : goal.returns
returns c = enough_steps_end_calls

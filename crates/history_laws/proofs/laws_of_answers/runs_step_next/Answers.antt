use Rattle.history_laws.proofs.Acts.{runs_step_next}
use Rattle.history_laws.proofs.laws_of_answers.runs_step_next.Goals as goal

pub returns : goal.returns
returns c = runs_step_next

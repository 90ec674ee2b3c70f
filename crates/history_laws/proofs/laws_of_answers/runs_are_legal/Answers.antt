use Rattle.history_laws.proofs.Shows.{runs_are_legal}
use Rattle.history_laws.proofs.laws_of_answers.runs_are_legal.Goals as goal

pub returns : goal.returns
returns c = runs_are_legal

use Rattle.history_laws.proofs.Plays.{runs_answer}
use Rattle.history_laws.proofs.laws_of_answers.runs_answer_unhindered_calls.Goals as goal

pub returns : goal.returns
returns c = runs_answer

use Rattle.history_laws.proofs.Plays.{runs_are_played}
use Rattle.history_laws.proofs.laws_of_answers.runs_are_played.Goals as goal

pub returns : goal.returns
returns c = runs_are_played

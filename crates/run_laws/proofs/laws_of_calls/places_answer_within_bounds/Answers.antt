use Rattle.run_laws.proofs.PlaceAnswers.{places_answer}
use Rattle.run_laws.proofs.laws_of_calls.places_answer_within_bounds.Goals as goal

pub returns : goal.returns
returns c = places_answer

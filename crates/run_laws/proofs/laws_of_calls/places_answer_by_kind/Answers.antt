use Rattle.run_laws.proofs.PlaceKinds.{places_answer_by_kind}
use Rattle.run_laws.proofs.laws_of_calls.places_answer_by_kind.Goals as goal

pub returns : goal.returns
returns c = places_answer_by_kind

use Rattle.thread_laws.specs.Noted.{Noted}
use Rattle.thread_laws.proofs.PlaceOwn.{own_steps}
use Rattle.thread_laws.proofs.laws_of_places.numbers_are_actors_there.Goals as goal

pub returns : goal.returns
returns c of max number who d log its stands = own_steps (λ (n : Noted). n.made) of number who its log stands.turns

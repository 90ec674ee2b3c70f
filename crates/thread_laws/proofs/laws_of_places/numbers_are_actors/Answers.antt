use Rattle.thread_laws.proofs.PlaceOwn.{own_steps}
use Rattle.thread_laws.proofs.laws_of_places.numbers_are_actors.Goals as goal

pub returns : goal.returns
returns c of server number who s log its stands = own_steps (λ m. m) of number who its log stands.turns

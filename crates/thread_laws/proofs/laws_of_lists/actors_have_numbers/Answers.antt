use Rattle.thread_laws.proofs.Calling.{actors_have_numbers}
use Rattle.thread_laws.proofs.laws_of_lists.actors_have_numbers.Goals as goal

pub returns : goal.returns
returns c = actors_have_numbers

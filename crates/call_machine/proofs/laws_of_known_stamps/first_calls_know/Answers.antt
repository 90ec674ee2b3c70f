use Rattle.call_machine.proofs.Knowing.{first_calls_know}
use Rattle.call_machine.proofs.laws_of_known_stamps.first_calls_know.Goals as goal

pub returns : goal.returns
returns c = first_calls_know

use Rattle.call_machine.proofs.Knowing.{more_stamps_are_known}
use Rattle.call_machine.proofs.laws_of_known_stamps.more_stamps_are_known.Goals as goal

pub returns : goal.returns
returns c = more_stamps_are_known

use Rattle.history_laws.proofs.ReadTakes.{reads_take_least}
use Rattle.history_laws.proofs.laws_of_takes.reads_take_least.Goals as goal

pub returns : goal.returns
returns c = reads_take_least

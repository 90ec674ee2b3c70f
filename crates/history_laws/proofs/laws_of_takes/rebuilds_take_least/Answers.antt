use Rattle.history_laws.proofs.Rebuilds.{rebuilds_take_least}
use Rattle.history_laws.proofs.laws_of_takes.rebuilds_take_least.Goals as goal

pub returns : goal.returns
returns c = rebuilds_take_least

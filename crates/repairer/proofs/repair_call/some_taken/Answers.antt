use Rattle.repairer.proofs.Counts.{nothing}
use Rattle.repairer.proofs.repair_call.some_taken.Goals as goal

pub returns-in-None : goal.returns-in-None
returns-in-None c = λ servers. nothing servers c.args.takes c.in-None.is

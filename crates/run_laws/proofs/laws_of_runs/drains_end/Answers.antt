use Rattle.run_laws.proofs.Drains.{drains_end}
use Rattle.run_laws.proofs.laws_of_runs.drains_end.Goals as goal

pub returns : goal.returns
returns c = drains_end

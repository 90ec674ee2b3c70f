use Rattle.run_laws.proofs.Sweeps.{sweeps_in_order}
use Rattle.run_laws.proofs.laws_of_runs.sweeper_sweeps_in_order.Goals as goal

pub returns : goal.returns
returns c = sweeps_in_order

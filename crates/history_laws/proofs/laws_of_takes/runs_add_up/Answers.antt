use Rattle.history_laws.proofs.ColumnRuns.{runs_add_up}
use Rattle.history_laws.proofs.laws_of_takes.runs_add_up.Goals as goal

pub returns : goal.returns
returns c = runs_add_up

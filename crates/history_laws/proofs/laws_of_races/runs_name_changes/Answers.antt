use Rattle.history_laws.proofs.RaceLines.{runs_name_changes}
use Rattle.history_laws.proofs.laws_of_races.runs_name_changes.Goals as goal

pub returns : goal.returns
returns c = runs_name_changes

use Rattle.history_laws.proofs.CausedLines.{runs_show_causes}
use Rattle.history_laws.proofs.laws_of_time.runs_show_causes.Goals as goal

pub returns : goal.returns
returns c = runs_show_causes

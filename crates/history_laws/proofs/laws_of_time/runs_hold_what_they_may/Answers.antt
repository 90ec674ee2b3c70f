use Rattle.history_laws.proofs.HeldLines.{runs_hold_what_they_may}
use Rattle.history_laws.proofs.laws_of_time.runs_hold_what_they_may.Goals as goal

pub returns : goal.returns
returns c = runs_hold_what_they_may

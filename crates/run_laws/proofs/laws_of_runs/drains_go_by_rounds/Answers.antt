use Rattle.run_laws.proofs.Rounds.{drains_go_by_rounds as law}
use Rattle.run_laws.proofs.laws_of_runs.drains_go_by_rounds.Goals as goal

pub returns : goal.returns
returns c = law

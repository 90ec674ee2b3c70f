use Rattle.history_laws.proofs.RaceLines.{runs_lose_races}
use Rattle.history_laws.proofs.laws_of_races.runs_lose_races.Goals as goal

pub returns : goal.returns
returns c = runs_lose_races

use Rattle.history_laws.proofs.Drops.{commits_drop}
use Rattle.history_laws.proofs.laws_of_races.commits_drop_what_they_replace.Goals as goal

pub returns : goal.returns
returns c = commits_drop

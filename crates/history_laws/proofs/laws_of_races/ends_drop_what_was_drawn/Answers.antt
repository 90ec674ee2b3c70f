use Rattle.history_laws.proofs.Drops.{ends_drop}
use Rattle.history_laws.proofs.laws_of_races.ends_drop_what_was_drawn.Goals as goal

pub returns : goal.returns
returns c = ends_drop

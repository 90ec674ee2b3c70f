use Rattle.history_laws.proofs.Drops.{deletes_drop}
use Rattle.history_laws.proofs.laws_of_races.deletes_drop_all_of_their_object.Goals as goal

pub returns : goal.returns
returns c = deletes_drop

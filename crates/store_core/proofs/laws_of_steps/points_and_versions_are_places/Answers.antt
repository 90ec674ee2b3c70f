use Rattle.store_core.proofs.Places.{directory_keeps_places}
use Rattle.store_core.proofs.laws_of_steps.points_and_versions_are_places.Goals as goal

pub returns : goal.returns
returns c = directory_keeps_places

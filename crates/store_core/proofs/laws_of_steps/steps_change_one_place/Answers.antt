use Rattle.store_core.proofs.Places.{acts_change_one_place, steps_change_one_actor}
use Rattle.store_core.proofs.laws_of_steps.steps_change_one_place.Goals as goal

pub returns-clause-place : goal.returns-clause-place
returns-clause-place c = acts_change_one_place

pub returns-clause-actor : goal.returns-clause-actor
returns-clause-actor c = steps_change_one_actor

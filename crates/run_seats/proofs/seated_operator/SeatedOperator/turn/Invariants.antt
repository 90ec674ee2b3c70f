use Rattle.run_seats.specs.Places.{last_by}
use Rattle.run_seats.proofs.seated_operator.SeatedOperator.turn.Given as goal

abbrev pub ghost-turn_after : goal.ghost-turn_after
ghost-turn_after g a = last_by a.store.now a.self.now.turns

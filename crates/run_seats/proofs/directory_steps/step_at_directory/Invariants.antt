use Rattle.run_seats.specs.Stepped.{entry_at_directory}
use Rattle.run_seats.proofs.directory_steps.step_at_directory.Given as goal

abbrev pub ghost-give_step : goal.ghost-give_step
ghost-give_step g a = entry_at_directory a.number a.stood.value.work a.left.value a.before.value.directory a.turn.now.seen g.last

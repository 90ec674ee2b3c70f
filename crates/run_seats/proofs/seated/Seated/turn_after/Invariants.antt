use Rattle.run_seats.proofs.seated.Seated.turn_after.Given as goal

abbrev pub ghost-step_at_directory : goal.ghost-step_at_directory
ghost-step_at_directory g a = g.last

abbrev pub ghost-step_at_server : goal.ghost-step_at_server
ghost-step_at_server g a = g.last

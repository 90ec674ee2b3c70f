use Rattle.run_seats.proofs.seated_sweeper.SeatedSweeper.turn_after.Given as goal

abbrev pub ghost-sweep_directory : goal.ghost-sweep_directory
ghost-sweep_directory g a = g.last

abbrev pub ghost-sweep_server : goal.ghost-sweep_server
ghost-sweep_server g a = g.last

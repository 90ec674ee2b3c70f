use Rattle.store_run.proofs.threaded_run.run_crew.Given as goal

abbrev pub ghost-finish_run : goal.ghost-finish_run
ghost-finish_run g a = a.store.now.script.now

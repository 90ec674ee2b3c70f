use Rattle.store_run.proofs.threaded_run.finish_run.Given as goal

abbrev pub ghost-sweep : goal.ghost-sweep
ghost-sweep g a = g.script

abbrev pub ghost-finish : goal.ghost-finish
ghost-finish g a = g.script

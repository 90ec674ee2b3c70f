use Rattle.store_run.proofs.ended.close_directory.Given as goal

abbrev pub ghost-take_out_by : goal.ghost-take_out_by
ghost-take_out_by g a = g.identity

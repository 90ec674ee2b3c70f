use Rattle.store_run.proofs.ended.take_out_by.Given as goal

abbrev pub ghost-take_out : goal.ghost-take_out
ghost-take_out g a = g.identity

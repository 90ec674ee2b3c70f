use Rattle.store_run.proofs.ended.close_servers.Given as goal

abbrev pub ghost-take_out_each : goal.ghost-take_out_each
ghost-take_out_each g a = g.identity

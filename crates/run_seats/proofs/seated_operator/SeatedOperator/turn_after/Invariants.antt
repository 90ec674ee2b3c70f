use Rattle.run_seats.proofs.seated_operator.SeatedOperator.turn_after.Given as goal

abbrev pub ghost-reap : goal.ghost-reap
ghost-reap g a = g.last

abbrev pub ghost-operate_server : goal.ghost-operate_server
ghost-operate_server g a = g.last

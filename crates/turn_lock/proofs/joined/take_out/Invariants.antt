use Rattle.turn_lock.proofs.joined.take_out.Given as goal

abbrev pub ghost-join_all : goal.ghost-join_all
ghost-join_all g a = g.identity

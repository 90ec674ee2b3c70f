use Rattle.turn_lock.proofs.taking_out.take_at.Given as goal

abbrev pub ghost-take_out : goal.ghost-take_out
ghost-take_out g a = g.identity

use Rattle.turn_lock.proofs.Joining.{whole_seen}
use Rattle.turn_lock.proofs.joined.take_out.Goals as goal

pub returns-clause-stands : goal.returns-clause-stands
returns-clause-stands g c =
    (c.take.new.turn.seen, c.take.ensures.stands, whole_seen c.args.lock.now g.identity c.args.turns.items c.join_all-turn.result c.take.new.turn.seen c.join_all-turn.ensures c.take.ensures.seen)

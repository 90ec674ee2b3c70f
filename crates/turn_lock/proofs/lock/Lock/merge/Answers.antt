use Rattle.std.proofs.Common.{rules, ap, sym, subst}
use Rattle.turn_lock.specs.History.{Among}
use Rattle.turn_lock.proofs.Keeps.{joins, settles}
use Rattle.turn_lock.proofs.lock.Lock.merge.Goals as goal

pub join_seat-requires : goal.join_seat-requires
join_seat-requires g c = (search rules, search rules, search rules, search rules, joins g.T.Historied.fixed_part g.T.Historied.stands_for _ _ _ _ (c.requires.free.0, c.requires.free.1))

pub load-requires : goal.load-requires
load-requires g c = (search rules, search rules, settles g.T.Historied.fixed_part g.T.Historied.stands_for _ _ _ c.args.number (ap (λ m. m.0.holds) c.join_seat.ensures.2) (subst (λ xs. Among c.args.number xs) (sym (ap (λ m. m.0.numbers) c.join_seat.ensures.2)) c.requires.number))

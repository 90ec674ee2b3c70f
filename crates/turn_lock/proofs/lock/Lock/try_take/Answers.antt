use Rattle.std.proofs.Common.{rules, ◌≡◌, ap, sym, subst, ◌∙◌, ◌∷◌, Some}
use Rattle.atomic_table.specs.Table.{rest}
use Rattle.turn_lock.specs.History.{Among}
use Rattle.turn_lock.proofs.Keeps.{tries}
use Rattle.turn_lock.proofs.lock.Lock.try_take.Goals as goal

pub compare_exchange-found-requires : goal.compare_exchange-found-requires
compare_exchange-found-requires g c =
    let same : c.from.result ≡ c.args.number = search rules in
    let mine : Among c.from.result c.args.seat.now.me.0.numbers = subst (λ n. Among n c.args.seat.now.me.0.numbers) (sym same) c.requires.number in
    (search rules, search rules, tries g.T.Historied.fixed_part g.T.Historied.stands_for _ _ _ _ mine)

pub exchange-requires : goal.exchange-requires
exchange-requires g c = let t = c.compare_exchange-found.ensures.2.0 c.if-found-eq0.true in
    (search rules, (Some t.0, t.1 ∙ ap (λ l. (0, Some t.0) ∷ rest l) (sym t.1)))

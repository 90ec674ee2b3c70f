use Rattle.session_store.proofs.HealingAll.{cut_answered}
use Rattle.session_store.proofs.heals.heal_with.Goals as goal

pub returns-then-not-heal_all : goal.returns-then-not-heal_all
returns-then-not-heal_all g c =
    cut_answered c.args.parts.now c.heal_all.new.parts c.deref.result.now c.args.chunks.items c.deref_mut.result.now c.args.taken.items c.heal_all.new.taken c.heal_all.result c.sweep_all.new.places c.deref.ensures.value
    c.deref_mut.ensures.value c.if-not-heal_all.true c.heal_all.ensures c.sweep_all.ensures

use Rattle.session_store.proofs.Healing.{few_healable}
use Rattle.session_store.proofs.heals.heal_lost.Goals as goal

pub heal_with-requires-clause-few : goal.heal_with-requires-clause-few
heal_with-requires-clause-few g c κs within =
    few_healable c.args.parts.now.places.book.geometry.parity_count c.args.parts.now.next c.args.lost.now c.in_ok-chunks.chunks.items c.in_ok-chunks.ensures c.requires.few

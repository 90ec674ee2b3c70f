use Rattle.std.proofs.Common.{refl}
use Rattle.share_mends.proofs.PieceLemmas.{layers_low, part_long, found_some}
use Rattle.share_mends.proofs.parts.good_part.Goals as goal

pub is_part-requires-clause-layers : goal.is_part-requires-clause-layers
is_part-requires-clause-layers c =
    layers_low c.args.plan.now.geometry c.args.plan.now.lost c.deref.result.now c.args.plan.now.layers.items c.deref.ensures.value c.requires.plan.layers

pub is_part-requires-clause-part : goal.is_part-requires-clause-part
is_part-requires-clause-part c =
    part_long c.args.plan.now.geometry c.args.plan.now.lost c.deref.result.now c.args.plan.now.layers.items c.args.piece.now c.chunk_place-start.result c.deref.ensures.value
    c.requires.plan.layers c.chunk_place-start.ensures.value c.requires.size c.requires.plan.aloof c.requires.plan.lost

pub returns-clause-found : goal.returns-clause-found
returns-clause-found c =
    found_some c.args.plan.now.geometry c.args.plan.now.lost c.deref.result.now c.args.plan.now.layers.items c.args.piece.now c.chunk_place-start.result c.deref.ensures.value
    c.requires.plan.layers c.chunk_place-start.ensures.value c.requires.size c.in_ok-part.part c.in_ok-part.ensures (c.if-not-is_part.ensures.0 refl)

use Rattle.clay_lanes.proofs.Shown.{are_chunks, block_planned}
use Rattle.clay_lanes.proofs.PlaceLemmas.{filled_apart}
use Rattle.clay_lanes.proofs.chunk_filling.fill_missing.Goals as goal

pub fill_all-requires-clause-plan : goal.fill_all-requires-clause-plan
fill_all-requires-clause-plan c = block_planned c.args.g c.args.have.now c.in_ok-plan.plan c.in_ok-plan.ensures.nodes

pub fill_all-requires-clause-left : goal.fill_all-requires-clause-left
fill_all-requires-clause-left c = are_chunks c.args.g c.args.have.now c.requires.count c.requires.lengths

pub returns-clause-filled : goal.returns-clause-filled
returns-clause-filled c = filled_apart c.args.g c.args.have.now c.args.chunks.now c.fill_all.new.chunks c.in_ok-fill_all.ensures.filled

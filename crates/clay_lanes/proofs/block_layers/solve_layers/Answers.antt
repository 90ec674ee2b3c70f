use Rattle.clay_model.specs.Left.{parts, Completes}
use Rattle.clay_lanes.specs.Present.{FitsChunks}
use Rattle.clay_lanes.proofs.Shown.{are_chunks, block_planned, fits_of, layer_for}
use Rattle.clay_lanes.proofs.block_layers.solve_layers.Goals as goal

pub solve-requires-clause-block : goal.solve-requires-clause-block
solve-requires-clause-block c =
    let plan = c.requires.plan in
    record {
      planned = block_planned c.args.g c.args.have.now c.args.plan.now plan.nodes;
      chunks = are_chunks c.args.g c.args.have.now plan.count plan.lengths;
      room = tt;
      within = c.requires.within;
    }

pub returns : goal.returns
returns c = λ n h.
    let g = c.args.g in
    let have = c.args.have.now in
    layer_for g (λ word. FitsChunks g (parts have) word) (λ word. Completes g have word) (fits_of g have) c.args.at _ c.args.plan.now.points.items n c.solve.new.solved (c.solve.ensures n h)

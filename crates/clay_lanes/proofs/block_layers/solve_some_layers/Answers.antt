use Rattle.std.proofs.Common.{length}
use Rattle.clay_model.specs.Left.{parts, Completes}
use Rattle.clay_lanes.specs.Present.{FitsChunks}
use Rattle.clay_lanes.proofs.Shown.{are_chunks, block_planned, fits_of, completes_of, rows_for, next_for}
use Rattle.clay_lanes.proofs.block_layers.solve_some_layers.Goals as goal

pub solve_some-requires-clause-block : goal.solve_some-requires-clause-block
solve_some-requires-clause-block c =
    let plan = c.requires.plan in
    record {
      planned = block_planned c.args.g c.args.have.now c.args.plan.now plan.nodes;
      chunks = are_chunks c.args.g c.args.have.now plan.count plan.lengths;
      room = tt;
      within = c.requires.within;
    }

pub solve_some-requires-clause-next : goal.solve_some-requires-clause-next
solve_some-requires-clause-next c =
    let g = c.args.g in
    let have = c.args.have.now in
    let plan = c.args.plan.now in
    next_for g (λ word. Completes g have word) (λ word. FitsChunks g (parts have) word) (completes_of g have) c.args.at c.args.len plan.erased.items plan.points.items c.args.layers.now c.args.solved.now c.requires.next

pub returns : goal.returns
returns c =
    let g = c.args.g in
    let have = c.args.have.now in
    rows_for g (λ word. FitsChunks g (parts have) word) (λ word. Completes g have word) (fits_of g have) c.args.at c.args.len c.args.plan.now.points.items c.args.layers.now (length c.args.layers.now) c.solve_some.new.rows c.solve_some.ensures

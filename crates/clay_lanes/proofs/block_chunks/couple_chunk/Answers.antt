use Rattle.std.proofs.Common.{◌+◌, ◌*◌, None, ap, ◌∙◌}
use Rattle.std.specs.Option.{option_map}
use Rattle.std.proofs.Math.ListN.{get_or-map}
use Rattle.clay_model.specs.Left.{parts, Completes}
use Rattle.clay_lanes.specs.Present.{FitsChunks}
use Rattle.clay_lanes.proofs.Shown.{bytes_of, are_chunks, block_planned, fits_of, completes_of, byte_for, layer_for}
use Rattle.clay_lanes.proofs.block_chunks.couple_chunk.Goals as goal

pub couple_chunk-requires-clause-block : goal.couple_chunk-requires-clause-block
couple_chunk-requires-clause-block c =
    let plan = c.requires.plan in
    record {
      planned = block_planned c.args.g c.args.have.now c.args.plan.now plan.nodes;
      chunks = are_chunks c.args.g c.args.have.now plan.count plan.lengths;
      room = tt;
      within = c.requires.within;
    }

pub couple_chunk-requires-clause-holds : goal.couple_chunk-requires-clause-holds
couple_chunk-requires-clause-holds c = λ n h.
    let g = c.args.g in
    let have = c.args.have.now in
    layer_for g (λ word. Completes g have word) (λ word. FitsChunks g (parts have) word) (completes_of g have) c.args.at c.args.len c.args.plan.now.points.items n c.args.solved.now (c.requires.holds n h)

pub couple_chunk-requires-clause-missing : goal.couple_chunk-requires-clause-missing
couple_chunk-requires-clause-missing c = get_or-map (option_map bytes_of) c.args.have.now c.args.c None ∙ ap (option_map bytes_of) c.requires.missing

pub returns-clause-written : goal.returns-clause-written
returns-clause-written c = λ z b hz hb.
    let g = c.args.g in
    let have = c.args.have.now in
    byte_for g (λ word. FitsChunks g (parts have) word) (λ word. Completes g have word) (fits_of g have) c.args.c c.couple_chunk.new.chunk (z * g.width + (c.args.at + b)) (c.couple_chunk.ensures.written z b hz hb)

pub returns-clause-kept : goal.returns-clause-kept
returns-clause-kept c = λ p is.
    let g = c.args.g in
    let have = c.args.have.now in
    byte_for g (λ word. FitsChunks g (parts have) word) (λ word. Completes g have word) (fits_of g have) c.args.c c.couple_chunk.new.chunk p
    (c.couple_chunk.ensures.kept p (byte_for g (λ word. Completes g have word) (λ word. FitsChunks g (parts have) word) (completes_of g have) c.args.c c.args.chunk.now p is))

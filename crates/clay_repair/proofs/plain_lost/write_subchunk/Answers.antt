use Rattle.std.proofs.Common.{◌≡◌, ◌+◌, ◌*◌, ◌<◌, length, sym, ap, ◌∙◌, arith}
use Rattle.clay_grid.specs.Shape.{row_count, node_count, node_of_chunk}
use Rattle.code_laws.specs.Solved.{coupled_byte}
use Rattle.code_laws.proofs.Column.{node_inside}
use Rattle.code_laws.proofs.Rows.{own_subchunk, crossed_subchunk}
use Rattle.clay_repair.proofs.plain_lost.write_subchunk.Goals as goal

pub returns-then-x-plan : goal.returns-then-x-plan
returns-then-x-plan c =
    let g = c.args.g in
    let plan = c.args.plan.now in
    let rows : 0 < row_count g = omega (arith, c.requires.plan.geometry.limits.parity_chunks.0) in
    let inside : node_of_chunk g plan.lost < node_count g = node_inside g plan.lost c.requires.plan.geometry c.requires.plan.chunk in
    own_subchunk g plan.lost c.args.parts.now c.args.x c.args.z (plan.column * row_count g + c.args.x) c.args.own.now c.copy_from_slice.new.self rows inside c.requires.read
    (c.if-x-plan.true ∙ c.requires.plan.row) (ap (λ y. y * row_count g + c.args.x) c.requires.plan.column) c.requires.own c.copy_from_slice.ensures.after

pub returns-else-x-plan : goal.returns-else-x-plan
returns-else-x-plan c =
    let g = c.args.g in
    let plan = c.args.plan.now in
    let rows : 0 < row_count g = omega (arith, c.requires.plan.geometry.limits.parity_chunks.0) in
    let inside : node_of_chunk g plan.lost < node_count g = node_inside g plan.lost c.requires.plan.geometry c.requires.plan.chunk in
    let node_is : plan.column * c.q.result + c.args.x ≡ plan.column * row_count g + c.args.x = ap (λ q. plan.column * q + c.args.x) c.q.ensures.value in
    crossed_subchunk g plan.lost c.args.parts.now c.args.x c.args.z (plan.column * row_count g + c.args.x) c.args.own.now c.piece.result.now c.cross.new.out rows inside c.requires.read
    c.requires.row (λ e. c.if-x-plan.false (e ∙ sym c.requires.plan.row)) (ap (λ y. y * row_count g + c.args.x) c.requires.plan.column) c.requires.own
    (record { at = λ word fits b hb. c.piece.ensures.value.at word fits b hb ∙ ap (λ i. coupled_byte g word b i c.args.z) node_is })
    (λ b hb. let long : b < length c.cross.new.out = omega arith in c.cross.ensures b long)

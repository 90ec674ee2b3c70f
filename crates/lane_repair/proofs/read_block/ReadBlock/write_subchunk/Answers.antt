use Rattle.std.proofs.Common.{◌≡◌, ◌+◌, ◌*◌, ◌<◌, length, sym, ap, ◌∙◌, arith}
use Rattle.clay_grid.specs.Shape.{row_count, node_count, node_of_chunk}
use Rattle.code_laws.specs.Solved.{coupled_byte}
use Rattle.code_laws.proofs.Column.{node_inside}
use Rattle.lane_repair.proofs.RepairLemmas.{own_piece, crossed_piece}
use Rattle.lane_repair.specs.Views.{pieces_of}
use Rattle.lane_repair.proofs.read_block.ReadBlock.write_subchunk.Goals as goal

pub returns-then-x-self : goal.returns-then-x-self
returns-then-x-self c =
    let g = c.args.self.now.g in
    let plan = c.args.self.now.plan.now in
    let rows : 0 < row_count g = omega (arith, c.requires.block.planned.geometry.limits.parity_chunks.0) in
    let inside : node_of_chunk g plan.lost < node_count g = node_inside g plan.lost c.requires.block.planned.geometry c.requires.block.planned.chunk in
    own_piece g plan.lost (pieces_of c.args.self.now.parts) c.args.self.now.at c.args.self.now.len c.args.x c.args.self.now.z (plan.column * row_count g + c.args.x) rows inside c.requires.block.read c.requires.row
    (ap (λ y. y * row_count g + c.args.x) c.requires.block.planned.column) c.args.own.now c.copy_from_slice.new.self
    (c.if-x-self.true ∙ c.requires.block.planned.row) c.requires.own c.copy_from_slice.ensures.after

pub returns-else-x-self : goal.returns-else-x-self
returns-else-x-self c =
    let g = c.args.self.now.g in
    let plan = c.args.self.now.plan.now in
    let rows : 0 < row_count g = omega (arith, c.requires.block.planned.geometry.limits.parity_chunks.0) in
    let inside : node_of_chunk g plan.lost < node_count g = node_inside g plan.lost c.requires.block.planned.geometry c.requires.block.planned.chunk in
    let node_is : plan.column * c.q.result + c.args.x ≡ plan.column * row_count g + c.args.x = ap (λ q. plan.column * q + c.args.x) c.q.ensures.value in
    crossed_piece g plan.lost (pieces_of c.args.self.now.parts) c.args.self.now.at c.args.self.now.len c.args.x c.args.self.now.z (plan.column * row_count g + c.args.x) rows inside c.requires.block.read c.requires.row
    (ap (λ y. y * row_count g + c.args.x) c.requires.block.planned.column) c.args.own.now c.part_piece-theirs.result.now c.cross.new.out
    (λ e. c.if-x-self.false (e ∙ sym c.requires.block.planned.row)) c.requires.own
    (record { bytes = λ word fits b hb. c.part_piece-theirs.ensures.value.bytes word fits b hb ∙ ap (λ i. coupled_byte g word (c.args.self.now.at + b) i c.args.self.now.z) node_is })
    (λ b hb. let long : b < length c.cross.new.out = omega arith in c.cross.ensures b long)

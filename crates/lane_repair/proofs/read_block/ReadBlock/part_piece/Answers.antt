use Rattle.std.proofs.Common.{◌≡◌, ℕ, ◌+◌, ◌-◌, ◌*◌, ◌<◌, ◌≤◌, length, None, IfSome, ap, subst, arith}
use Rattle.clay_grid.specs.Shape.{row_count, node_count, node_of_chunk}
use Rattle.clay_grid.specs.Repair.{repair_layers_of}
use Rattle.code_laws.proofs.Pieces.{piece_fits}
use Rattle.code_laws.proofs.Nodes.{node_real}
use Rattle.clay_model.specs.RepairParts.{part_length}
use Rattle.code_laws.proofs.Places.{StandsAt}
use Rattle.code_laws.proofs.Column.{node_inside, stands_at, length-part}
use Rattle.lane_repair.specs.Views.{pieces_of}
use Rattle.lane_repair.proofs.RepairLemmas.{part_of_piece}
use Rattle.lane_repair.proofs.read_block.ReadBlock.part_piece.Goals as goal

pub slice_bounds-result-end : goal.slice_bounds-result-end
slice_bounds-result-end c =
    let g = c.args.self.now.g in
    let plan = c.args.self.now.plan.now in
    let layers = repair_layers_of g plan.lost in
    let inside : node_of_chunk g plan.lost < node_count g = node_inside g plan.lost c.requires.block.planned.geometry c.requires.block.planned.chunk in
    let stands : StandsAt layers c.layer_place.result c.args.z = stands_at g plan.lost plan.column c.args.z c.layer_place.result c.requires.block.planned.column c.requires.read c.layer_place.ensures.within c.layer_place.ensures.place in
    let facts = c.in-Some.ensures in
    let below : c.in-Some.chunk < length (pieces_of c.args.self.now.parts) = omega (arith, facts.0, c.requires.block.parts.count) in
    let long : length c.in-Some-get.bytes.now ≡ part_length g =
    subst (λ o. IfSome o (λ p. length p ≡ part_length g)) c.in-Some-get.ensures (c.requires.block.parts.lengths c.in-Some.chunk None below) in
    let size : length layers * g.width ≡ part_length g = length-part g plan.lost c.requires.block.planned.geometry inside in
    let fits : c.layer_place.result * g.width + g.width ≤ length layers * g.width = piece_fits c.layer_place.result (length layers) g.width stands.within in
    let start : ℕ = c.layer_place.result * c.w.result + c.args.self.now.at in
    let same : c.layer_place.result * c.w.result ≡ c.layer_place.result * g.width = ap (λ w. c.layer_place.result * w) c.w.ensures.value in
    let ends : start + c.args.self.now.len ≤ length c.in-Some-get.bytes.now = omega (arith, long, size, fits, same, c.requires.block.within) in
    ends

pub returns-in-Some-get-clause-value : goal.returns-in-Some-get-clause-value
returns-in-Some-get-clause-value c =
    let g = c.args.self.now.g in
    let plan = c.args.self.now.plan.now in
    let start : ℕ = c.layer_place.result * c.w.result + c.args.self.now.at in
    let rows : 0 < row_count g = let some = c.w.ensures.geometry.limits.parity_chunks.0 in omega arith in
    let stands : StandsAt (repair_layers_of g plan.lost) c.layer_place.result c.args.z = stands_at g plan.lost plan.column c.args.z c.layer_place.result c.requires.block.planned.column c.requires.read c.layer_place.ensures.within c.layer_place.ensures.place in
    let facts = c.in-Some.ensures in
    let width : start + c.args.self.now.len - start ≡ c.args.self.now.len = omega arith in
    part_of_piece g plan.lost (pieces_of c.args.self.now.parts) c.in-Some.chunk c.args.node c.args.z c.layer_place.result c.args.self.now.at c.args.self.now.len start (start + c.args.self.now.len - start) c.in-Some-get.bytes.now
    rows facts.0 c.requires.read.layer (node_real g c.in-Some.chunk c.args.node facts.1) c.requires.block.within c.in-Some-get.ensures stands
    (ap (λ v. c.layer_place.result * v + c.args.self.now.at) c.w.ensures.value) width

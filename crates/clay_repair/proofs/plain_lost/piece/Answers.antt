use Rattle.std.proofs.Common.{◌≡◌, ℕ, ◌+◌, ◌-◌, ◌*◌, ◌<◌, ◌≤◌, length, get_or, take, drop, Some, None, sym, ap, ◌∙◌, subst, arith}
use Rattle.std.proofs.lemmas.List.{get_or_read}
use Rattle.clay_grid.specs.Shape.{row_count, node_count, node_of_chunk}
use Rattle.clay_grid.specs.Repair.{repair_layers_of}
use Rattle.code_laws.proofs.Pieces.{piece_fits}
use Rattle.code_laws.proofs.Nodes.{node_real, long_chunk}
use Rattle.clay_model.specs.RepairParts.{part_length}
use Rattle.code_laws.specs.Rebuilt.{IsCoupled}
use Rattle.code_laws.proofs.Places.{StandsAt}
use Rattle.code_laws.proofs.Column.{node_inside, stands_at, length-part, held_piece}
use Rattle.clay_repair.proofs.plain_lost.piece.Goals as goal

pub slice_bounds-result-end : goal.slice_bounds-result-end
slice_bounds-result-end c =
    let g = c.args.g in
    let plan = c.args.plan.now in
    let layers = repair_layers_of g plan.lost in
    let inside : node_of_chunk g plan.lost < node_count g = node_inside g plan.lost c.requires.plan.geometry c.requires.plan.chunk in
    let stands : StandsAt layers c.place_of.result c.args.z = stands_at g plan.lost plan.column c.args.z c.place_of.result c.requires.plan.column c.requires.read c.place_of.ensures.within c.place_of.ensures.place in
    let facts = c.in-Some.ensures in
    let below : c.in-Some.chunk < length c.args.parts.now = omega (arith, facts.0, c.requires.parts.count) in
    let there : get_or c.args.parts.now c.in-Some.chunk None ≡ Some c.in-Some-parts.bytes =
    sym (get_or_read c.args.parts.now c.in-Some.chunk c.index-parts-chunk.result below c.index-parts-chunk.is None) ∙ c.in-Some-parts.is in
    let long : length c.deref.result.now ≡ part_length g =
    ap length c.deref.ensures.value ∙ long_chunk (part_length g) c.args.parts.now c.requires.parts.lengths c.in-Some.chunk c.in-Some-parts.bytes below there in
    let size : length layers * g.width ≡ part_length g = length-part g plan.lost c.requires.plan.geometry inside in
    let fits : c.place_of.result * g.width + g.width ≤ length layers * g.width = piece_fits c.place_of.result (length layers) g.width stands.within in
    let same : c.place_of.result * c.w-w.result + c.w-w.result ≡ c.place_of.result * g.width + g.width = ap (λ w. c.place_of.result * w + w) c.w-w.ensures.value in
    let ends : c.place_of.result * c.w-w.result + c.w-w.result ≤ length c.deref.result.now = omega (arith, long, size, fits, same) in
    ends

pub returns-in-Some-parts-clause-value : goal.returns-in-Some-parts-clause-value
returns-in-Some-parts-clause-value c =
    let g = c.args.g in
    let plan = c.args.plan.now in
    let w : ℕ = c.w-w.result in
    let at : ℕ = c.place_of.result * w in
    let rows : 0 < row_count g = let some = c.w-w.ensures.geometry.limits.parity_chunks.0 in omega arith in
    let stands : StandsAt (repair_layers_of g plan.lost) c.place_of.result c.args.z = stands_at g plan.lost plan.column c.args.z c.place_of.result c.requires.plan.column c.requires.read c.place_of.ensures.within c.place_of.ensures.place in
    let facts = c.in-Some.ensures in
    let below : c.in-Some.chunk < length c.args.parts.now = omega (arith, facts.0, c.requires.parts.count) in
    let there : get_or c.args.parts.now c.in-Some.chunk None ≡ Some c.in-Some-parts.bytes =
    sym (get_or_read c.args.parts.now c.in-Some.chunk c.index-parts-chunk.result below c.index-parts-chunk.is None) ∙ c.in-Some-parts.is in
    let width : at + w - at ≡ g.width = omega (arith, c.w-w.ensures.value) in
    subst (λ l. IsCoupled g plan.lost c.args.parts.now c.args.node c.args.z (take (at + w - at) (drop at l))) (sym c.deref.ensures.value)
    (held_piece g plan.lost c.args.parts.now c.in-Some.chunk c.args.node c.args.z c.place_of.result at (at + w - at) c.in-Some-parts.bytes rows facts.0 c.requires.read.layer
    (node_real g c.in-Some.chunk c.args.node facts.1) there stands (ap (λ v. c.place_of.result * v) c.w-w.ensures.value) width)

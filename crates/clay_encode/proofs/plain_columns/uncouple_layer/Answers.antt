use Rattle.std.proofs.Common.{◌≡◌, ℕ, ◌+◌, ◌-◌, ◌*◌, ◌<◌, ◌≤◌, length, subst, sym, ap, arith}
use Rattle.clay_grid.specs.Shape.{node_count}
use Rattle.clay_grid.specs.Layers.{layer_of}
use Rattle.code_laws.specs.Columns.{uncoupled_value, HoldsPieces}
use Rattle.code_laws.proofs.Pieces.{piece_fits, no_pieces, one_more_piece}
use borrow.Rule.Slice.PartMut.{put_mid}
use Rattle.clay_encode.proofs.plain_columns.uncouple_layer.Goals as goal

pub loop-node-init : goal.loop-node-init
loop-node-init c = no_pieces c.args.g.width _ c.args.layer.now

pub slice_bounds-uncouple_node-end : goal.slice_bounds-uncouple_node-end
slice_bounds-uncouple_node-end c =
    let below : c.loop-node.node < node_count c.args.g = omega arith in
    let fits = piece_fits c.loop-node.node (node_count c.args.g) c.args.g.width below in
    let end : c.loop-node.node * c.w-w.result + c.w-w.result ≡ c.loop-node.node * c.args.g.width + c.args.g.width = ap (λ w. c.loop-node.node * w + w) c.w-w.ensures.value in
    let ends : c.loop-node.node * c.w-w.result + c.w-w.result ≤ length c.loop-node.layer = omega arith in
    ends

pub loop-node-preserved : goal.loop-node-preserved
loop-node-preserved c =
    let g = c.args.g in
    let value : ℕ → ℕ → ℕ = λ i b. uncoupled_value g c.args.stripe.now b i (layer_of g c.args.z) in
    let below : c.loop-node.node < node_count g = omega arith in
    let fits = piece_fits c.loop-node.node (node_count g) g.width below in
    let width : g.width ≡ c.w-w.result = sym c.w-w.ensures.value in
    let start : c.loop-node.node * g.width ≤ length c.loop-node.layer = omega arith in
    let long : length c.uncouple_node.new.out ≡ g.width = omega arith in
    subst (λ w. HoldsPieces g.width (c.loop-node.node + 1) value (put_mid (c.loop-node.node * w) (c.loop-node.node * w + w - c.loop-node.node * w) c.loop-node.layer c.uncouple_node.new.out))
    width
    (one_more_piece g.width c.loop-node.node (c.loop-node.node * g.width + g.width - c.loop-node.node * g.width) value c.loop-node.layer c.uncouple_node.new.out start long c.loop-node.invariant c.uncouple_node.ensures)

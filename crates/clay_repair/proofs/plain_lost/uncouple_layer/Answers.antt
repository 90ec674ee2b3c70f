use Rattle.std.proofs.Common.{◌≡◌, ℕ, ◌+◌, ◌-◌, ◌*◌, ◌<◌, ◌≤◌, true, false, length, get_or, sym, subst, ap, ◌∙◌, arith}
use Rattle.std.proofs.lemmas.List.{get_or_read}
use Rattle.clay_grid.specs.Shape.{node_count}
use Rattle.code_laws.proofs.Pieces.{piece_fits}
use borrow.Rule.Slice.PartMut.{put_mid}
use Rattle.code_laws.specs.Rebuilt.{HoldsOthers}
use Rattle.code_laws.proofs.Column.{others_more, others_skipped}
use Rattle.clay_repair.proofs.plain_lost.uncouple_layer.Goals as goal
use Rattle.clay_repair.proofs.plain_lost.uncouple_layer.Goals.{then-not-index, else-not-index}

pub slice_bounds-uncouple_node-end : goal.slice_bounds-uncouple_node-end
slice_bounds-uncouple_node-end c =
    let node : ℕ = c.loop-node.node in
    let below : node < node_count c.args.g = omega (arith, c.loop-node-test.true, c.nodes-node-end.ensures.value) in
    let fits = piece_fits node (node_count c.args.g) c.args.g.width below in
    let end : node * c.w-w.result + c.w-w.result ≡ node * c.args.g.width + c.args.g.width = ap (λ w. node * w + w) c.w-w.ensures.value in
    let ends : node * c.w-w.result + c.w-w.result ≤ length c.loop-node.layer = omega (arith, c.loop-node.auto.layer, c.requires.layer_len) in
    ends

pub loop-node-preserved : goal.loop-node-preserved
loop-node-preserved c =
    let g = c.args.g in
    let lost = c.args.plan.now.lost in
    let erased = c.args.plan.now.erased.items in
    let node : ℕ = c.loop-node.node in
    let below : node < node_count g = omega (arith, c.loop-node-test.true, c.nodes-node-end.ensures.value) in
    let fits = piece_fits node (node_count g) g.width below in
    let start : node * g.width ≤ length c.loop-node.layer = omega (arith, c.loop-node.auto.layer, c.requires.layer_len) in
    let within : node < length erased = omega (arith, c.requires.plan.nodes) in
    let read : c.index.result.now ≡ get_or erased node false = get_or_read erased node c.index.result.now within c.index.ensures false in
    elim c.if-not-index.branch [
      | then-not-index w ↦
          let long : length w.uncouple_node.new.out ≡ g.width = omega (arith, w.uncouple_node.auto.out, c.w-w.ensures.value, fits, start) in
          subst (HoldsOthers g lost c.args.parts.now erased c.args.z (node + 1)) (sym w.layer-is)
          (subst (λ v. HoldsOthers g lost c.args.parts.now erased c.args.z (node + 1) (put_mid (node * v) (node * v + v - node * v) c.loop-node.layer w.uncouple_node.new.out)) (sym c.w-w.ensures.value)
          (others_more g lost c.args.parts.now erased c.args.z node (node * g.width + g.width - node * g.width) c.loop-node.layer w.uncouple_node.new.out start long c.loop-node.invariant w.uncouple_node.ensures))
      | else-not-index w ↦
          let gone : get_or erased node false ≡ true = sym read ∙ w.if-not-index.false in
          subst (HoldsOthers g lost c.args.parts.now erased c.args.z (node + 1)) (sym w.layer-is)
          (others_skipped g lost c.args.parts.now erased c.args.z node c.loop-node.layer gone c.loop-node.invariant)
    ]

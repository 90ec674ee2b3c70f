use Rattle.std.proofs.Common.{◌≡◌, ℕ, ◌+◌, ◌<◌, true, false, length, get_or, sym, subst, ◌∙◌, arith}
use Rattle.std.proofs.lemmas.List.{get_or_read}
use Rattle.clay_grid.specs.Shape.{node_count}
use Rattle.clay_aloof.proofs.Layer.{HoldsSums, sums_more, sums_skipped, rows_of_sums}
use Rattle.clay_aloof.specs.Known.{node_bytes}
use Rattle.clay_aloof.proofs.layer_solving.solve_layer.Goals as goal
use Rattle.clay_aloof.proofs.layer_solving.solve_layer.Goals.{then-not-index, else-not-index}

pub add_node-requires-clause-there : goal.add_node-requires-clause-there
add_node-requires-clause-there c =
    let node : ℕ = c.loop-node.node in
    let within : node < length c.args.plan.now.erased.items = omega (arith, c.loop-node-test.true, c.nodes-node-end.ensures.value, c.requires.plan.nodes) in
    sym (get_or_read c.args.plan.now.erased.items node c.index.result.now within c.index.ensures false) ∙ c.if-not-index.true

pub loop-node-preserved : goal.loop-node-preserved
loop-node-preserved c =
    let g = c.args.g in
    let plan = c.args.plan.now in
    let known = (node_bytes c.args.g c.args.known.now) in
    let z : ℕ = c.args.z in
    let erased = plan.erased.items in
    let node : ℕ = c.loop-node.node in
    let below : node < node_count g = omega (arith, c.loop-node-test.true, c.nodes-node-end.ensures.value) in
    let within : node < length erased = omega (arith, c.requires.plan.nodes) in
    let read : c.index.result.now ≡ get_or erased node false = get_or_read erased node c.index.result.now within c.index.ensures false in
    elim c.if-not-index.branch [
      | then-not-index w ↦
          let here : get_or erased node false ≡ false = sym read ∙ w.if-not-index.true in
          subst (HoldsSums g plan known z (node + 1)) (sym w.rows-is)
          (sums_more g plan known z node c.loop-node.rows w.add_node.new.rows here w.add_node.ensures c.loop-node.invariant)
      | else-not-index w ↦
          let gone : get_or erased node false ≡ true = sym read ∙ w.if-not-index.false in
          subst (HoldsSums g plan known z (node + 1)) (sym w.rows-is) (sums_skipped g plan known z node c.loop-node.rows gone c.loop-node.invariant)
    ]

pub returns : goal.returns
returns c =
    let g = c.args.g in
    let plan = c.args.plan.now in
    let known = (node_bytes c.args.g c.args.known.now) in
    let all : c.loop-node.node ≡ node_count g = omega (arith, c.loop-node-test.false, c.loop-node.auto.node-end, c.nodes-node-end.ensures.value) in
    rows_of_sums g plan known c.requires.plan c.args.z c.loop-node.rows (subst (λ n. HoldsSums g plan known c.args.z n c.loop-node.rows) all c.loop-node.invariant)

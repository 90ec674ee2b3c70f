use Rattle.std.proofs.Common.{◌≡◌, ◌<◌, not, nat_lt, sym, subst, ap, ◌∙◌, arith}
use Rattle.clay_grid.specs.Shape.{node_count}
use Rattle.clay_aloof.specs.Shape.{grid_of, node_of}
use Rattle.clay_aloof.proofs.Parity.{parity_counted}
use Rattle.clay_aloof.proofs.aloof_chunks.parity_nodes.Goals as goal

pub returns-clause-len : goal.returns-clause-len
returns-clause-len c =
    let ended : c.loop-node.node ≡ c.nodes-node-end.result = omega (arith, c.loop-node-test.false, c.loop-node.auto.node-end) in
    c.loop-node.invariant.0 ∙ ended ∙ c.nodes-node-end.ensures.value ∙ ap node_count c.grid-grid.ensures.value

pub returns-clause-value : goal.returns-clause-value
returns-clause-value c = λ i h.
    let ended : c.loop-node.node ≡ c.nodes-node-end.result = omega (arith, c.loop-node-test.false, c.loop-node.auto.node-end) in
    let all : c.loop-node.node ≡ node_count (grid_of c.args.g) = ended ∙ c.nodes-node-end.ensures.value ∙ ap node_count c.grid-grid.ensures.value in
    c.loop-node.invariant.1 i (subst (λ n. i < n) (sym all) h)
    ∙ ap (λ f. not (nat_lt i f)) (c.node_of_chunk-first.ensures.value ∙ ap (node_of c.args.g) c.k-k.ensures.value)

pub returns-clause-count : goal.returns-clause-count
returns-clause-count c =
    let ended : c.loop-node.node ≡ c.nodes-node-end.result = omega (arith, c.loop-node-test.false, c.loop-node.auto.node-end) in
    let all : c.loop-node.node ≡ node_count (grid_of c.args.g) = ended ∙ c.nodes-node-end.ensures.value ∙ ap node_count c.grid-grid.ensures.value in
    parity_counted c.args.g c.loop-node.nodes.items c.grid-grid.ensures.geometry
    (λ i h. c.loop-node.invariant.1 i (subst (λ n. i < n) (sym all) h)
    ∙ ap (λ f. not (nat_lt i f)) (c.node_of_chunk-first.ensures.value ∙ ap (node_of c.args.g) c.k-k.ensures.value))

use Rattle.std.proofs.Common.{◌≡◌, ◌+◌, ◌<◌, ◌++◌, ◌∷◌, [], false, length, get_or, sym, subst, ap, ◌∙◌, arith}
use Rattle.std.proofs.lemmas.List.{length_push}
use Rattle.lane_repair.specs.Views.{pieces_of}
use Rattle.clay_aloof.specs.Rebuilt.{is_unknown}
use Rattle.clay_aloof.proofs.Unknown.{flags_more}
use Rattle.clay_grid.specs.Shape.{node_count}
use Rattle.clay_aloof.specs.Shape.{grid_of}
use Rattle.clay_aloof.proofs.lost_chunk.solved_nodes.Goals as goal

pub returns-clause-len : goal.returns-clause-len
returns-clause-len c =
    let ended : c.loop-node.node ≡ c.nodes-node-end.result = omega (arith, c.loop-node-test.false, c.loop-node.auto.node-end) in
    c.loop-node.invariant.0 ∙ ended ∙ c.nodes-node-end.ensures.value ∙ ap node_count c.grid-grid.ensures.value

pub returns-clause-value : goal.returns-clause-value
returns-clause-value c = λ i h.
    let ended : c.loop-node.node ≡ c.nodes-node-end.result = omega (arith, c.loop-node-test.false, c.loop-node.auto.node-end) in
    let all : c.loop-node.node ≡ node_count (grid_of c.args.g) = ended ∙ c.nodes-node-end.ensures.value ∙ ap node_count c.grid-grid.ensures.value in
    c.loop-node.invariant.1 i (subst (λ n. i < n) (sym all) h)

pub loop-node-preserved : goal.loop-node-preserved
loop-node-preserved c =
    let before = c.loop-node.nodes.items in
    let x = c.is_solved.result in
    let now : c.push.new.self.items ≡ before ++ x ∷ [] = c.in_ok-push.ensures.items in (
      ap length now ∙ length_push before x ∙ ap (λ n. n + 1) c.loop-node.invariant.0,
      λ i h. ap (λ l. get_or l i false) now
          ∙ flags_more before x c.loop-node.node (is_unknown c.args.g c.args.lost (pieces_of c.args.parts)) c.loop-node.invariant.0 c.loop-node.invariant.1 c.is_solved.ensures i h,
    )

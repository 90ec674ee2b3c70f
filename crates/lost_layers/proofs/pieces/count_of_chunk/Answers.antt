use Rattle.std.proofs.Common.{◌≡◌, ℕ, ◌≤◌, Bool, cond, sym, ap, ◌∙◌, arith}
use Rattle.std.specs.Int.{from_bool}
use Rattle.clay_grid.specs.Shape.{layer_count}
use Rattle.clay_grid.specs.Score.{count_below}
use Rattle.clay_grid.proofs.ScoreLaws.{from_bool-cond, one_at_most}
use Rattle.lost_layers.specs.LostPieces.{is_piece}
use Rattle.lost_layers.proofs.PieceSteps.{counted_step, length-lost_layers}
use Rattle.lost_layers.proofs.pieces.count_of_chunk.Goals as goal

pub loop-layer-preserved : goal.loop-layer-preserved
loop-layer-preserved c =
    let test : ℕ → Bool = is_piece c.args.placed.now.g c.args.placed.now.run c.node_of_chunk-node.result in
    let n : ℕ = c.loop-layer.layer in
    let last : c.from-count.result ≡ cond (test n) 1 0 = c.from-count.ensures ∙ ap from_bool c.is_piece.ensures ∙ from_bool-cond (test n) in
    let one : c.from-count.result ≤ 1 = one_at_most (test n) c.from-count.result last in
    let before = c.loop-layer.invariant in
    (counted_step test n c.loop-layer.count c.from-count.result before.0 last, omega (arith, one, before.1))

pub returns-clause-count : goal.returns-clause-count
returns-clause-count c =
    let g = c.args.placed.now.g in
    let run = c.args.placed.now.run in
    let all : c.loop-layer.layer ≡ layer_count g = omega (arith, c.loop-layer-test.false, c.loop-layer.auto.layer-end, c.alpha-layer-end.ensures.value) in
    c.loop-layer.invariant.0
    ∙ ap (λ n. count_below n (is_piece g run c.node_of_chunk-node.result)) all
    ∙ sym (length-lost_layers g run c.args.chunk c.node_of_chunk-node.result c.node_of_chunk-node.ensures.value)

use Rattle.std.proofs.Common.{◌≡◌, ℕ, ◌≤◌, Bool, cond, sym, ap, ◌∙◌, arith}
use Rattle.std.specs.Int.{from_bool}
use Rattle.clay_grid.specs.Shape.{layer_count, node_of_chunk}
use Rattle.clay_grid.specs.Score.{count_below}
use Rattle.clay_grid.proofs.Rising.{length-filter_range}
use Rattle.clay_grid.proofs.ScoreLaws.{from_bool-cond, one_at_most}
use Rattle.lost_layers.proofs.PieceSteps.{counted_step}
use Rattle.lost_layers.specs.ErasedPieces.{is_piece}
use Rattle.lost_layers.specs.ErasedRuns.{solved_of}
use Rattle.lost_layers.proofs.pieces_of_missing.SolvedRun.count_of_chunk.Goals as goal

pub loop-layer-preserved : goal.loop-layer-preserved
loop-layer-preserved c =
    let test : ℕ → Bool = is_piece (solved_of c.args.self.now) c.node_of_chunk-node.result in
    let n : ℕ = c.loop-layer.layer in
    let last : c.from-count.result ≡ cond (test n) 1 0 = c.from-count.ensures ∙ ap from_bool c.is_piece.ensures ∙ from_bool-cond (test n) in
    let one : c.from-count.result ≤ 1 = one_at_most (test n) c.from-count.result last in
    let before = c.loop-layer.invariant in
    (counted_step test n c.loop-layer.count c.from-count.result before.0 last, omega (arith, one, before.1))

pub returns-clause-count : goal.returns-clause-count
returns-clause-count c =
    let e = solved_of c.args.self.now in
    let all : c.loop-layer.layer ≡ layer_count e.g = omega (arith, c.loop-layer-test.false, c.loop-layer.auto.layer-end, c.alpha-layer-end.ensures.value) in
    c.loop-layer.invariant.0
    ∙ (λ k. count_below (all k) (is_piece e (c.node_of_chunk-node.ensures.value k)))
    ∙ sym (length-filter_range (is_piece e (node_of_chunk e.g c.args.chunk)) (layer_count e.g))

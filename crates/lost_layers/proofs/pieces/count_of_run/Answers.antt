use Rattle.std.proofs.Common.{◌≡◌, ℕ, ◌+◌, ◌≤◌, length, sym, ◌∙◌, arith}
use Rattle.std.proofs.lemmas.List.{length-map}
use Rattle.clay_grid.specs.Shape.{layer_count}
use Rattle.lost_layers.specs.LostPieces.{lost_layers_of, pieces_of_chunk, piece_at}
use Rattle.lost_layers.proofs.PieceSteps.{length-chunk_more}
use Rattle.lost_layers.proofs.pieces.count_of_run.Goals as goal

pub loop-chunk-preserved : goal.loop-chunk-preserved
loop-chunk-preserved c =
    let g = c.args.placed.now.g in
    let run = c.args.placed.now.run in
    let chunk : ℕ = c.loop-chunk.chunk in
    let before = c.loop-chunk.invariant in
    let own : c.count_of_chunk-count.result ≡ length (pieces_of_chunk g run chunk) =
    c.count_of_chunk-count.ensures.count ∙ sym (length-map (lost_layers_of g run chunk) (piece_at chunk)) in
    let most : layer_count g ≤ 1024 = c.requires.geometry.limits.layers in
    ((λ k. before.0 k + own k) ∙ sym (length-chunk_more (pieces_of_chunk g run) chunk), omega (arith, before.1, c.count_of_chunk-count.ensures.within, most))

use Rattle.std.proofs.Common.{◌≡◌, ℕ, ◌+◌, ◌≤◌, length, sym, ◌∙◌, arith}
use Rattle.std.proofs.lemmas.List.{length-map}
use Rattle.clay_grid.specs.Shape.{layer_count}
use Rattle.lost_layers.specs.LostPieces.{piece_at}
use Rattle.lost_layers.proofs.PieceSteps.{length-chunk_more}
use Rattle.lost_layers.specs.ErasedPieces.{layers_read, pieces_of_chunk}
use Rattle.lost_layers.specs.ErasedRuns.{solved_of}
use Rattle.lost_layers.proofs.pieces_of_missing.SolvedRun.count.Goals as goal

pub loop-chunk-preserved : goal.loop-chunk-preserved
loop-chunk-preserved c =
    let e = solved_of c.args.self.now in
    let chunk : ℕ = c.loop-chunk.chunk in
    let before = c.loop-chunk.invariant in
    let own : c.count_of_chunk-count.result ≡ length (pieces_of_chunk e chunk) =
    c.count_of_chunk-count.ensures.count ∙ sym (length-map (layers_read e chunk) (piece_at chunk)) in
    let most : layer_count e.g ≤ 1024 = c.requires.placed.geometry.limits.layers in
    ((λ k. before.0 k + own k) ∙ sym (length-chunk_more (pieces_of_chunk e) chunk), omega (arith, before.1, c.count_of_chunk-count.ensures.within, most))

use Rattle.std.proofs.Common.{ℕ, ◌++◌, sym, ap, ◌∙◌}
use Rattle.lost_layers.specs.LostPieces.{pieces_of_chunk}
use Rattle.lost_layers.proofs.PieceSteps.{chunk_more}
use Rattle.lost_layers.proofs.pieces.pieces_of_run.Goals as goal

pub loop-chunk-preserved : goal.loop-chunk-preserved
loop-chunk-preserved c =
    let g = c.args.placed.now.g in
    let run = c.args.placed.now.run in
    let chunk : ℕ = c.loop-chunk.chunk in
    c.in_ok-push_chunk.ensures
    ∙ ap (λ l. l ++ pieces_of_chunk g run chunk) c.loop-chunk.invariant
    ∙ sym (chunk_more (pieces_of_chunk g run) chunk)

use Rattle.std.proofs.Common.{ℕ, ◌++◌, sym, ap, ◌∙◌}
use Rattle.lost_layers.proofs.PieceSteps.{chunk_more}
use Rattle.lost_layers.specs.ErasedPieces.{pieces_of_chunk}
use Rattle.lost_layers.specs.ErasedRuns.{solved_of}
use Rattle.lost_layers.proofs.pieces_of_missing.SolvedRun.pieces.Goals as goal

pub loop-chunk-preserved : goal.loop-chunk-preserved
loop-chunk-preserved c =
    let e = solved_of c.args.self.now in
    let chunk : ℕ = c.loop-chunk.chunk in
    c.in_ok-push_chunk.ensures
    ∙ ap (λ l. l ++ pieces_of_chunk e chunk) c.loop-chunk.invariant
    ∙ sym (chunk_more (pieces_of_chunk e) chunk)

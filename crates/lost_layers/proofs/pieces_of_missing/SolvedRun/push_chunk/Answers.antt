use Rattle.std.proofs.Common.{ℕ, Bool, sym, ap, ◌∙◌}
use Rattle.lost_layers.proofs.PieceSteps.{piece_pushed, piece_skipped}
use Rattle.lost_layers.specs.ErasedPieces.{is_piece}
use Rattle.lost_layers.specs.ErasedRuns.{solved_of}
use Rattle.lost_layers.proofs.pieces_of_missing.SolvedRun.push_chunk.Goals as goal
use Rattle.lost_layers.proofs.pieces_of_missing.SolvedRun.push_chunk.Goals.{then-is_piece+in_ok-push, else-is_piece}

pub loop-layer-preserved : goal.loop-layer-preserved
loop-layer-preserved c =
    let test : ℕ → Bool = is_piece (solved_of c.args.self.now) c.node_of_chunk-node.result in
    elim c.if-is_piece.branch [
      | then-is_piece+in_ok-push w ↦
          piece_pushed test c.args.chunk c.loop-layer.layer c.args.pieces.now.items c.loop-layer.pieces.items _ (ap (λ v. v.items) w.pieces-is ∙ w.in_ok-push.ensures.items)
          c.loop-layer.invariant (sym c.is_piece.ensures ∙ w.if-is_piece.true)
      | else-is_piece w ↦
          ap (λ v. v.items) w.pieces-is
          ∙ piece_skipped test c.args.chunk c.loop-layer.layer c.args.pieces.now.items c.loop-layer.pieces.items c.loop-layer.invariant (sym c.is_piece.ensures ∙ w.if-is_piece.false)
    ]

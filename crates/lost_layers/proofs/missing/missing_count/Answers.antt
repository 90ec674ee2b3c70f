use Rattle.std.proofs.Common.{◌≡◌, length, sym, ap, ◌∙◌}
use Rattle.lost_layers.specs.Erased.{Erased}
use Rattle.lost_layers.specs.ErasedPieces.{pieces_of}
use Rattle.lost_layers.specs.ErasedRuns.{marked_of}
use Rattle.lost_layers.specs.Without.{without}
use Rattle.lost_layers.proofs.Gone.{no_pieces}
use Rattle.lost_layers.proofs.missing.missing_count.Goals as goal

pub returns-then-run-clause-count : goal.returns-then-run-clause-count
returns-then-run-clause-count c = sym (ap length (no_pieces (without c.args.g c.args.run c.args.present.now) c.if-run.true))

pub returns-clause-count : goal.returns-clause-count
returns-clause-count c =
    let placed = c.in_ok-placed.ensures.placed in
    let run : marked_of c.in_ok-marked.marked ≡ without c.args.g c.args.run c.args.present.now =
    c.in_ok-marked.ensures.without ∙ (λ k. without (placed.1 k) (placed.2 k) c.args.present.now) in
    c.count.ensures ∙ ap (λ (e : Erased). length (pieces_of e)) (c.solved.ensures.erased ∙ run)

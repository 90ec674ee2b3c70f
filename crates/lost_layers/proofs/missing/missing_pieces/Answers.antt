use Rattle.std.proofs.Common.{◌≡◌, sym, subst, ap, ◌∙◌}
use Rattle.clay_grid.specs.Limits.{IsGeometry}
use Rattle.lost_layers.specs.ErasedPieces.{pieces_of}
use Rattle.lost_layers.specs.ErasedRuns.{marked_of}
use Rattle.lost_layers.specs.Without.{without, Determine}
use Rattle.lost_layers.proofs.Gone.{no_pieces, determine}
use Rattle.lost_layers.proofs.missing.missing_pieces.Goals as goal

pub returns-then-run-clause-listed : goal.returns-then-run-clause-listed
returns-then-run-clause-listed c =
    c.new.ensures.items ∙ sym (no_pieces (without c.args.g c.args.run c.args.present.now) c.if-run.true)

pub returns-clause-listed : goal.returns-clause-listed
returns-clause-listed c =
    let placed = c.in_ok-placed.ensures.placed in
    let run : marked_of c.in_ok-marked.marked ≡ without c.args.g c.args.run c.args.present.now =
    c.in_ok-marked.ensures.without ∙ (λ k. without (placed.1 k) (placed.2 k) c.args.present.now) in
    c.in_ok-pieces.ensures ∙ ap pieces_of (c.solved.ensures.erased ∙ run)

pub returns-clause-determine : goal.returns-clause-determine
returns-clause-determine c =
    let placed = c.in_ok-placed.ensures.placed in
    let run : marked_of c.in_ok-marked.marked ≡ without c.args.g c.args.run c.args.present.now =
    c.in_ok-marked.ensures.without ∙ (λ k. without (placed.1 k) (placed.2 k) c.args.present.now) in
    subst (Determine c.args.g c.args.run c.args.present.now) (sym (c.in_ok-pieces.ensures ∙ ap pieces_of (c.solved.ensures.erased ∙ run)))
    (determine c.args.g c.args.run c.args.present.now (subst IsGeometry placed.1 placed.0.geometry) c.in_ok-placed.ensures.readable)

use Rattle.std.proofs.Common.{◌<◌, sym, ap, subst, ◌∙◌}
use Rattle.clay_grid.specs.Shape.{chunk_count}
use Rattle.call_steps.specs.declared.need.Need.{Need}
use Rattle.call_steps.specs.Steps.{IsServerBelow}
use Rattle.snapshot_view.specs.Reads.{ReadOf}
use Rattle.snapshot_view.specs.ReadSteps.{need_of, without_directory}
use Rattle.snapshot_view.specs.ReadInside.{read_in}
use Rattle.snapshot_view.proofs.Needs.{ended_needs, going_needs}
use Rattle.snapshot_view.proofs.snapshot_read.SnapRead.need.Goals as goal

pub returns-then-is_some-clause-need : goal.returns-then-is_some-clause-need
returns-then-is_some-clause-need c = ended_needs (read_in c.self.inside) (sym c.is_some.ensures ∙ c.if-is_some.true) ∙ ap need_of c.self.view_is

pub returns-in-Server-clause-need : goal.returns-in-Server-clause-need
returns-in-Server-clause-need c =
    ap without_directory (sym c.in-Server.is ∙ c.need.ensures.need) ∙ going_needs (read_in c.self.inside) (sym c.is_some.ensures ∙ c.if-is_some.false) ∙ ap need_of c.self.view_is

pub returns-in-Server-clause-below : goal.returns-in-Server-clause-below
returns-in-Server-clause-below c =
    subst (λ (r : ReadOf). c.in-Server.server < chunk_count r.gatherings.book.geometry) c.self.view_is
    (subst (λ (needed : Need). IsServerBelow (chunk_count c.self.inside.gatherings.book.geometry) needed) c.in-Server.is c.need.ensures.below)

pub returns-in-Coder-clause-need : goal.returns-in-Coder-clause-need
returns-in-Coder-clause-need c =
    ap without_directory (sym c.in-Coder.is ∙ c.need.ensures.need) ∙ going_needs (read_in c.self.inside) (sym c.is_some.ensures ∙ c.if-is_some.false) ∙ ap need_of c.self.view_is

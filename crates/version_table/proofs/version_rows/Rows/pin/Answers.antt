use Rattle.std.proofs.Common.{ap, ◌∙◌}
use Rattle.version_table.specs.Told.{entry_pinned}
use Rattle.version_table.specs.Rows.{RowsOf, unswept_count}
use Rattle.version_table.specs.RowSteps.{kept_pinned}
use Rattle.version_table.proofs.RowSteps.{rows_changed, still_unswept, pinned_same}
use Rattle.version_table.proofs.version_rows.Rows.pin.Goals as goal

pub invariant_of-self : goal.invariant_of-self
invariant_of-self c =
    rows_changed c.self.inside.told c.self.inside.count c.self.inside.rows c.self.invariant c.args.number kept_pinned entry_pinned (λ e at. pinned_same e)
    c.change.new.self c.change.ensures c.pin_row.new.rows c.pin_row.ensures

pub returns-clause-unswept : goal.returns-clause-unswept
returns-clause-unswept c =
    still_unswept c.self.inside.told c.self.inside.count c.self.inside.rows c.self.invariant c.args.number kept_pinned entry_pinned (λ e at. pinned_same e) c.change.new.self c.change.ensures
    ∙ ap (λ (r : RowsOf). unswept_count r.entries) c.self.view_is

use Rattle.std.proofs.Common.{ap, ◌∙◌}
use Rattle.version_table.specs.Told.{entry_unpinned}
use Rattle.version_table.specs.Rows.{RowsOf, unswept_count}
use Rattle.version_table.specs.RowSteps.{kept_unpinned}
use Rattle.version_table.proofs.RowSteps.{rows_changed, still_unswept, unpinned_same}
use Rattle.version_table.proofs.version_rows.Rows.unpin.Goals as goal

pub invariant_of-self : goal.invariant_of-self
invariant_of-self c =
    rows_changed c.self.inside.told c.self.inside.count c.self.inside.rows c.self.invariant c.args.number kept_unpinned entry_unpinned (λ e at. unpinned_same e)
    c.change.new.self c.change.ensures c.unpin_row.new.rows c.unpin_row.ensures.alters

pub returns-clause-unswept : goal.returns-clause-unswept
returns-clause-unswept c =
    still_unswept c.self.inside.told c.self.inside.count c.self.inside.rows c.self.invariant c.args.number kept_unpinned entry_unpinned (λ e at. unpinned_same e) c.change.new.self c.change.ensures
    ∙ ap (λ (r : RowsOf). unswept_count r.entries) c.self.view_is

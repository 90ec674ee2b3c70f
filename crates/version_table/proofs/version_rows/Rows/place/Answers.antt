use Rattle.std.proofs.Common.{is_some, ap, ◌∙◌}
use Rattle.store_core.specs.Lists.{change_at}
use Rattle.version_table.specs.Told.{entry_current}
use Rattle.version_table.specs.Rows.{RowsOf, kept_at, unswept_count}
use Rattle.version_table.specs.RowSteps.{kept_current}
use Rattle.version_table.proofs.RowSteps.{rows_changed, still_unswept, current_same}
use Rattle.version_table.proofs.version_rows.Rows.place.Goals as goal

pub invariant_of-self : goal.invariant_of-self
invariant_of-self c =
    rows_changed c.self.inside.told c.self.inside.count c.self.inside.rows c.self.invariant c.args.number (kept_current c.args.placed.items) (entry_current c.args.placed.items) (current_same c.self.inside.told c.args.number (ap (λ (r : RowsOf). is_some (kept_at r.entries c.args.number)) c.self.view_is ∙ c.requires) c.args.placed.items)
    c.change.new.self (c.change.ensures ∙ ap (λ l. change_at c.args.number (entry_current l) c.self.inside.told) c.deref.ensures.value) c.place_row.new.rows c.place_row.ensures

pub returns-clause-unswept : goal.returns-clause-unswept
returns-clause-unswept c =
    still_unswept c.self.inside.told c.self.inside.count c.self.inside.rows c.self.invariant c.args.number (kept_current c.args.placed.items) (entry_current c.args.placed.items) (current_same c.self.inside.told c.args.number (ap (λ (r : RowsOf). is_some (kept_at r.entries c.args.number)) c.self.view_is ∙ c.requires) c.args.placed.items) c.change.new.self (c.change.ensures ∙ ap (λ l. change_at c.args.number (entry_current l) c.self.inside.told) c.deref.ensures.value)
    ∙ ap (λ (r : RowsOf). unswept_count r.entries) c.self.view_is

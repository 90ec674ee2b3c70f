use Rattle.std.proofs.Common.{ap, ◌∙◌}
use Rattle.version_table.specs.Told.{entry_anew}
use Rattle.version_table.specs.Rows.{RowsOf, unswept_count}
use Rattle.version_table.specs.RowSteps.{kept_anew}
use Rattle.version_table.proofs.RowSteps.{rows_changed, still_unswept, anew_same}
use Rattle.version_table.proofs.version_rows.Rows.place_anew.Goals as goal

pub invariant_of-self : goal.invariant_of-self
invariant_of-self c =
    rows_changed c.self.inside.told c.self.inside.count c.self.inside.rows c.self.invariant c.args.number (kept_anew c.args.server c.args.epoch) (entry_anew c.args.server c.args.epoch) (λ e at. anew_same c.args.server c.args.epoch e)
    c.change.new.self c.change.ensures c.raise_row.new.rows c.raise_row.ensures

pub returns-clause-unswept : goal.returns-clause-unswept
returns-clause-unswept c =
    still_unswept c.self.inside.told c.self.inside.count c.self.inside.rows c.self.invariant c.args.number (kept_anew c.args.server c.args.epoch) (entry_anew c.args.server c.args.epoch) (λ e at. anew_same c.args.server c.args.epoch e) c.change.new.self c.change.ensures
    ∙ ap (λ (r : RowsOf). unswept_count r.entries) c.self.view_is

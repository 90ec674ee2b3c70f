use Rattle.std.proofs.Common.{is_some, ap, ◌∙◌}
use Rattle.version_table.specs.Told.{entry_standing}
use Rattle.version_table.specs.Rows.{RowsOf, kept_at, unswept_count}
use Rattle.version_table.specs.RowSteps.{kept_standing}
use Rattle.version_table.proofs.RowSteps.{rows_changed, still_unswept, standing_same}
use Rattle.version_table.proofs.version_rows.Rows.stand.Goals as goal

pub invariant_of-self : goal.invariant_of-self
invariant_of-self c =
    rows_changed c.self.inside.told c.self.inside.count c.self.inside.rows c.self.invariant c.args.number (kept_standing c.args.standing) (entry_standing c.args.standing) (standing_same c.self.inside.told c.args.number (ap (λ (r : RowsOf). is_some (kept_at r.entries c.args.number)) c.self.view_is ∙ c.requires.kept) c.args.standing c.requires.stays)
    c.change.new.self c.change.ensures c.stand_row.new.rows c.stand_row.ensures.alters

pub returns-clause-unswept : goal.returns-clause-unswept
returns-clause-unswept c =
    still_unswept c.self.inside.told c.self.inside.count c.self.inside.rows c.self.invariant c.args.number (kept_standing c.args.standing) (entry_standing c.args.standing) (standing_same c.self.inside.told c.args.number (ap (λ (r : RowsOf). is_some (kept_at r.entries c.args.number)) c.self.view_is ∙ c.requires.kept) c.args.standing c.requires.stays) c.change.new.self c.change.ensures
    ∙ ap (λ (r : RowsOf). unswept_count r.entries) c.self.view_is

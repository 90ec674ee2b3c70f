use Rattle.std.proofs.Common.{◌≤◌, ap, arith}
use Rattle.version_table.specs.Told.{entry_swept}
use Rattle.version_table.specs.Rows.{RowsOf, unswept_count}
use Rattle.store_core.specs.Lists.{change_at}
use Rattle.version_table.proofs.RowSteps.{rows_swept, fewer}
use Rattle.version_table.proofs.version_rows.Rows.sweep.Goals as goal

pub invariant_of-self : goal.invariant_of-self
invariant_of-self c = rows_swept c.self.inside.told c.self.inside.count c.self.inside.rows c.self.invariant c.args.number c.change.new.self c.change.ensures c.sweep_row.new.rows c.sweep_row.ensures

pub returns-clause-unswept : goal.returns-clause-unswept
returns-clause-unswept c =
    let less : unswept_count (change_at c.args.number entry_swept c.self.inside.told) ≤ unswept_count c.self.inside.told = fewer c.self.inside.told c.args.number in
    omega (arith, less, ap unswept_count c.change.ensures, ap (λ (r : RowsOf). unswept_count r.entries) c.self.view_is)

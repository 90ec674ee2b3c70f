use Rattle.std.proofs.Common.{refl, ap}
use Rattle.version_table.specs.Told.{entry_drawn}
use Rattle.version_table.specs.declared.told_versions.Standing.TheVariants as standing
use Rattle.version_table.proofs.RowSteps.{rows_drawn}
use Rattle.version_table.proofs.version_rows.Rows.draw_one.Goals as goal

pub invariant_of-self : goal.invariant_of-self
invariant_of-self c =
    rows_drawn c.self.inside.told c.self.inside.count c.self.inside.rows c.self.invariant (entry_drawn c.args.actor c.args.number c.args.stripe c.args.base) refl
    (record { placed = c.new.result; standing = standing.Drawn; pins = 0 }) (ap (λ placed. record { placed = placed; standing = standing.Drawn; pins = 0 }) c.new.ensures.items)
    c.draw.new.self c.draw.ensures c.insert_row.new.rows c.insert_row.ensures.adds

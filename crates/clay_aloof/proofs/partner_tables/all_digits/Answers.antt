use Rattle.std.proofs.Common.{◌+◌, subst, sym}
use Rattle.clay_aloof.specs.Partners.{HoldsColumns}
use Rattle.clay_aloof.proofs.PartnerTables.{columns_more}
use Rattle.clay_aloof.proofs.partner_tables.all_digits.Goals as goal

pub loop-column-preserved : goal.loop-column-preserved
loop-column-preserved c =
    subst (HoldsColumns c.args.g (c.loop-column.column + 1)) (sym c.in_ok-push.ensures.items)
    (columns_more c.args.g c.loop-column.columns.items c.in_ok-digits_of.field-0 c.loop-column.column c.loop-column.invariant c.in_ok-digits_of.ensures)

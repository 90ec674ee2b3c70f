use Rattle.std.proofs.Common.{◌∙◌}
use Rattle.clay_field.proofs.FieldLaws.{product_comm, product_two_low, product_two_high}
use Rattle.clay_kernels.proofs.slice_coupling.twice.Goals as goal

pub returns-then-a-lt128 : goal.returns-then-a-lt128
returns-then-a-lt128 c = product_two_low c.args.a c.if-a-lt128.true ∙ product_comm c.args.a 2

pub returns-else-a-lt128 : goal.returns-else-a-lt128
returns-else-a-lt128 c = product_two_high c.args.a c.if-a-lt128.false c.ranges.a.fits ∙ product_comm c.args.a 2

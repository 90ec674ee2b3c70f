use Rattle.std.proofs.Common.{◌∙◌}
use Rattle.clay_field.proofs.FieldLaws.{product_comm}
use Rattle.clay_model.proofs.coupling.twice.Goals as goal

pub returns : goal.returns
returns c = c.mul.ensures ∙ product_comm c.args.a 2

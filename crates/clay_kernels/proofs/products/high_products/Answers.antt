use Rattle.std.proofs.Common.{ap, ◌∙◌}
use Rattle.clay_field.specs.Field.{product}
use Rattle.clay_kernels.proofs.NibbleLemmas.{product_sixteen}
use Rattle.clay_kernels.proofs.products.high_products.Goals as goal

pub returns : goal.returns
returns c i h = c.nibble_products.ensures i h ∙ ap (λ x. product x i) c.mul.ensures ∙ product_sixteen c.args.c i h

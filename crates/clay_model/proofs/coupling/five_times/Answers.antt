use Rattle.std.proofs.Common.{ap, ◌∙◌, bit_xor}
use Rattle.clay_field.specs.Field.{product}
use Rattle.clay_model.proofs.PairLaws.{one_and_four}
use Rattle.clay_model.proofs.coupling.five_times.Goals as goal

pub returns : goal.returns
returns c = ap (bit_xor c.args.a) (c.twice-2.ensures ∙ ap (product 2) c.twice.ensures) ∙ one_and_four c.args.a c.ranges.a.fits

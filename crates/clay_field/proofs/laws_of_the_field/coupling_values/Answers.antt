use Rattle.std.proofs.Common.{refl}
use Rattle.clay_field.specs.Field.{sum_of_copies, remainder, product, power_of, inverse_of}
use Rattle.clay_field.proofs.laws_of_the_field.coupling_values.Goals as goal

pub returns : goal.returns
unfolding sum_of_copies remainder product power_of inverse_of
returns c = record {
  twice_top_bit = refl;
  determinant = refl;
  half = refl;
  fifth = refl;
  two_fifths = refl;
  three_fifths = refl;
  four_fifths = refl;
  six_fifths = refl;
  eight_fifths = refl;
}

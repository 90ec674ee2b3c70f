use Rattle.clay_grid.proofs.LayerLaws.{IsLayer-digits_of, index_of-lt, index_of-digits_of, digits_of-index_of}
use Rattle.clay_grid.proofs.laws_of_the_grid.layer_laws.Goals as goal

pub returns : goal.returns
returns c = record {
  digits = IsLayer-digits_of;
  number = index_of-lt;
  number_of_digits = index_of-digits_of;
  digits_of_number = digits_of-index_of;
}

use Rattle.clay_field.proofs.FieldLaws.{product_lt, product_comm, product_assoc, product_one, product_add_right}
use Rattle.clay_field.proofs.Inverses.{product-inverse_of, only_inverse}
use Rattle.clay_field.proofs.laws_of_the_field.product_laws.Goals as goal

pub returns : goal.returns
returns c = record {
  byte = product_lt;
  commutes = product_comm;
  associates = product_assoc;
  distributes = product_add_right;
  one = product_one;
  inverse = product-inverse_of;
  only_inverse = only_inverse;
}

use Rattle.clay_field.proofs.PowerLaws.{logarithm, power_of_two_255}
use Rattle.clay_field.proofs.laws_of_the_field.two_generates.Goals as goal

pub returns : goal.returns
returns c = record { reached = logarithm; order = power_of_two_255 }

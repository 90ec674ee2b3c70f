use Rattle.clay_scalar.proofs.Interpolation.{sums_tell_values}
use Rattle.clay_scalar.proofs.laws_of_solutions.solutions_are_unique.Goals as goal

pub returns : goal.returns
returns c = sums_tell_values

use Rattle.code_laws.proofs.ErasedNodes.{erased_values_solved}
use Rattle.clay_scalar.proofs.laws_of_solutions.erased_values_are_solved.Goals as goal

pub returns : goal.returns
returns c = erased_values_solved

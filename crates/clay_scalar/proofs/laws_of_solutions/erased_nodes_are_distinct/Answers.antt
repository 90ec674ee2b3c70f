use Rattle.code_laws.proofs.ErasedNodes.{AreDistinct-erased}
use Rattle.clay_scalar.proofs.laws_of_solutions.erased_nodes_are_distinct.Goals as goal

pub returns : goal.returns
returns c = AreDistinct-erased

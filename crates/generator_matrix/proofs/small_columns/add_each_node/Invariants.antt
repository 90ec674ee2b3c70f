use Rattle.std.proofs.Common.{◌+◌, ◌*◌, get_or}
use Rattle.generator_matrix.specs.Generated.{factor_at}
use Rattle.generator_matrix.proofs.SmallColumnLaws.{NodesDone}
use Rattle.generator_matrix.proofs.small_columns.add_each_node.Given as goal

abbrev pub invariant-loop-x : goal.invariant-loop-x
invariant-loop-x l = NodesDone l.x l.fn.count l.len (λ x e. factor_at l.factors l.fn.count x e) (λ x b. get_or l.values (x * l.len + b) 0) l.fn.rows l.rows

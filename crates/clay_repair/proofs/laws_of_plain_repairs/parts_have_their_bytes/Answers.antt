use Rattle.code_laws.proofs.Column.{node_inside, length-part, length-repair_parts}
use Rattle.clay_repair.proofs.laws_of_plain_repairs.parts_have_their_bytes.Goals as goal

pub returns-clause-layers : goal.returns-clause-layers
returns-clause-layers c = λ g lost geometry h. length-part g lost geometry (node_inside g lost geometry h)

pub returns-clause-parts : goal.returns-clause-parts
returns-clause-parts c = length-repair_parts

use Rattle.std.proofs.Common.{◌≡◌, ℕ, ◌/◌, ◌<◌, length, get_or, eqb, false}
use Rattle.clay_grid.specs.Shape.{row_count}
use Rattle.clay_repair.proofs.plain_repair_plan.column_nodes.Given as goal

abbrev pub invariant-loop-node : goal.invariant-loop-node
invariant-loop-node l = (length l.nodes.items ≡ l.node) × ((i : ℕ) → i < l.node → get_or l.nodes.items i false ≡ eqb (i / row_count l.g) l.column)

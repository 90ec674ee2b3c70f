-- What a repair works with.
use Rattle.std.specs.Prelude.{◌≡◌, ℕ, ◌*◌, ◌/◌, ◌%◌, ◌<◌, eqb, false, length, get_or, replicate}
use Rattle.std.specs.List.{range_with_len}
use Rattle.clay_grid.specs.Shape.{Shape, chunk_count, row_count, node_count, node_of_chunk}
use Rattle.clay_grid.specs.Limits.{IsGeometry}
use Rattle.clay_grid.specs.Repair.{repair_layers_of}
use Rattle.clay_repair.specs.declared.plain_repair_plan.PlainRepairPlan.{PlainRepairPlan}

-- the lost node's place, the nodes of its column, the layers that are read, and a subchunk of zeros
pub record IsPlan (g : Shape) (plan : PlainRepairPlan) : Type 0 where
  pub geometry : IsGeometry g
  pub chunk : plan.lost < chunk_count g
  pub row : plan.row ≡ node_of_chunk g plan.lost % row_count g
  pub column : plan.column ≡ node_of_chunk g plan.lost / row_count g
  pub nodes : length plan.erased.items ≡ node_count g
  pub erased_are : (i : ℕ) → i < node_count g → get_or plan.erased.items i false ≡ eqb (i / row_count g) plan.column
  pub points : plan.solver ≡ range_with_len (plan.column * row_count g) (row_count g)
  pub layers : plan.layers.items ≡ repair_layers_of g plan.lost
  pub empty : plan.zeros.items ≡ replicate g.width 0

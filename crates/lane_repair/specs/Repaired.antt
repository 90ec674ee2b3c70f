-- What a call of repair works with.
use Rattle.std.specs.Prelude.{◌≡◌, ℕ, ◌*◌, ◌/◌, ◌%◌, ◌<◌, eqb, false, List, get_or, length, replicate}
use Rattle.std.specs.List.{range_with_len}
use Rattle.clay_field.specs.Coupling.{gamma_inverse}
use Rattle.clay_grid.specs.Shape.{Shape, chunk_count, row_count, node_count, node_of_chunk}
use Rattle.clay_grid.specs.Limits.{IsGeometry}
use Rattle.clay_grid.specs.Repair.{repair_layers_of}
use Rattle.generator_matrix.specs.Generated.{IsGeneratorOf}
use Rattle.lane_repair.specs.declared.repair_plan.RepairPlan.{RepairPlan}

-- the nodes of a column, rising
abbrev pub column_nodes : Shape → ℕ → List ℕ
column_nodes g y = range_with_len (y * row_count g) (row_count g)

-- the lost node's place, the factors of its column, the layers that are read, a subchunk of zeros, and the products of the inverse of 2
pub record IsRepairPlan (g : Shape) (plan : RepairPlan) : Type 0 where
  pub geometry : IsGeometry g
  pub chunk : plan.lost < chunk_count g
  pub row : plan.row ≡ node_of_chunk g plan.lost % row_count g
  pub column : plan.column ≡ node_of_chunk g plan.lost / row_count g
  pub nodes : length plan.erased.items ≡ node_count g
  pub erased_are : (i : ℕ) → i < node_count g → get_or plan.erased.items i false ≡ eqb (i / row_count g) plan.column
  pub generator : IsGeneratorOf g (column_nodes g plan.column) plan.generator.unknown plan.generator.each
  pub layers : plan.layers.items ≡ repair_layers_of g plan.lost
  pub empty : plan.zeros.items ≡ replicate g.width 0
  pub halves : plan.halves ≡ gamma_inverse

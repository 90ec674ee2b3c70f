-- Layers in an order in which they can be solved.
use Rattle.std.specs.Prelude.{◌≡◌, ℕ, ◌<◌, ◌≤◌, Bool, false, List, length, get_or}
use Rattle.clay_grid.specs.Shape.{Shape, node_count, layer_count}
use Rattle.clay_grid.specs.Limits.{IsGeometry}
use Rattle.clay_grid.specs.Score.{GoesBefore}
use Rattle.clay_model.specs.Erased.{erased_below}
use Rattle.clay_model.specs.Partners.{ArePartners}
use Rattle.clay_aloof.specs.Shape.{AloofShape, grid_of}
use Rattle.clay_aloof.specs.Rebuilt.{IsGiven}
use Rattle.clay_aloof.specs.Solved.{IsPlan, IsIn}
use Rattle.clay_aloof.specs.declared.layer_solving.Plan.{Plan}

-- a few erased nodes, and layers by rising score, with each layer that one of them needs
pub record AreOrdered (g : Shape) (erased : List Bool) (layers : List ℕ) : Type 0 where
  pub geometry : IsGeometry g
  pub nodes : length erased ≡ node_count g
  pub few : length (erased_below erased (node_count g)) ≤ 8
  pub rising : (i j : ℕ) → i < j → j < length layers → GoesBefore g erased (get_or layers i 0) (get_or layers j 0)
  pub only_layers : (i : ℕ) → i < length layers → get_or layers i 0 < layer_count g
  pub partners : (i n other p : ℕ) → get_or erased i false ≡ false → ArePartners g i n other p → p < layer_count g → IsIn layers n → IsIn layers p

-- a plan solves these nodes in these layers
pub record IsPlanOf (g : Shape) (erased : List Bool) (layers : List ℕ) (plan : Plan) : Type 0 where
  pub sound : IsPlan g plan
  pub erased_are : plan.erased.items ≡ erased
  pub layers_are : plan.layers.items ≡ layers

-- the layers that are given, by rising score
pub record AreKept (a : AloofShape) (lost : ℕ) (erased : List Bool) (layers : List ℕ) : Type 0 where
  pub rising : (i j : ℕ) → i < j → j < length layers → GoesBefore (grid_of a) erased (get_or layers i 0) (get_or layers j 0)
  pub only_layers : (i : ℕ) → i < length layers → get_or layers i 0 < layer_count (grid_of a)
  pub each_layer : (n : ℕ) → n < layer_count (grid_of a) → IsGiven a lost n → IsIn layers n
  pub given : (n : ℕ) → IsIn layers n → IsGiven a lost n

-- What a call of decoding works with, and the layers that it has solved.
use Rattle.std.specs.Prelude.{◌≡◌, ℕ, ◌*◌, ◌<◌, ◌≤◌, false, List, length, get_or, replicate, Option, Vec}
use Rattle.std.specs.declared.alloc.Global.{Global}
use Rattle.clay_grid.specs.Shape.{Shape, node_count, layer_count}
use Rattle.clay_grid.specs.Limits.{IsGeometry}
use Rattle.clay_grid.specs.Score.{IsByScore}
use Rattle.clay_model.specs.Erased.{erased_below}
use Rattle.clay_model.specs.Left.{AreLeft}
use Rattle.code_laws.specs.Solved.{is_erased, HoldsLayer, HoldsLower}
use Rattle.clay_decode.specs.declared.plain_plan.PlainDecodePlan.{PlainDecodePlan}

-- the erased nodes, their interpolation, the order of the layers, and a subchunk of zeros, for chunks of which few enough are missing
pub record IsPlan (g : Shape) (have : List (Option (Vec ℕ Global))) (plan : PlainDecodePlan) : Type 0 where
  pub geometry : IsGeometry g
  pub left : AreLeft g have
  pub few : length plan.points.items ≤ g.parity_count
  pub nodes : length plan.erased.items ≡ node_count g
  pub erased_are : (i : ℕ) → i < node_count g → get_or plan.erased.items i false ≡ is_erased g have i
  pub points_are : plan.points.items ≡ erased_below plan.erased.items (node_count g)
  pub solver : plan.solver ≡ plan.points.items
  pub order : IsByScore g plan.erased.items plan.layers.items
  pub empty : plan.zeros.items ≡ replicate g.width 0

-- a piece for each erased node in each layer
abbrev pub HasPieces : Shape → PlainDecodePlan → List ℕ → Type 0
HasPieces g plan solved = length solved ≡ layer_count g * (length plan.points.items * g.width)

-- each layer is solved
pub record AreSolved (g : Shape) (have : List (Option (Vec ℕ Global))) (plan : PlainDecodePlan) (solved : List ℕ) : Type 0 where
  pub len : length solved ≡ layer_count g * (length plan.points.items * g.width)
  pub each : (n : ℕ) → n < layer_count g → HoldsLayer g have plan.points.items n solved

-- the layers that layer n waits for are solved
abbrev pub AreLowerSolved : Shape → List (Option (Vec ℕ Global)) → PlainDecodePlan → ℕ → List ℕ → Type 0
AreLowerSolved g have plan n solved = HoldsLower g have plan.erased.items plan.points.items n solved

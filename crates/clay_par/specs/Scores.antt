-- Layers of one score, of which none waits for another.
use Rattle.std.specs.Prelude.{◌≡◌, ℕ, ◌+◌, ◌*◌, ◌<◌, ◌≤◌, List, length, get_or, Option, Vec}
use Rattle.std.specs.declared.alloc.Global.{Global}
use Rattle.clay_grid.specs.Shape.{Shape, layer_count}
use Rattle.clay_grid.specs.Score.{score_at}
use Rattle.clay_model.specs.Left.{Completes}
use Rattle.code_laws.specs.Solved.{uncoupled_byte}
use Rattle.clay_lanes.specs.Recovered.{HoldsLayerRows}
use Rattle.clay_lanes.specs.declared.recovery_plan.DecodePlan.{DecodePlan}

-- layers of one score, as many as count, from a place in the order on
pub record IsRun (g : Shape) (plan : DecodePlan) (from count : ℕ) : Type 0 where
  pub some : 0 < count
  pub few : count ≤ layer_count g
  pub inside : from + count ≤ length plan.layers.items
  pub same : (i : ℕ) → i < count
      → score_at g plan.erased.items (get_or plan.layers.items (from + i) 0) ≡ score_at g plan.erased.items (get_or plan.layers.items from 0)

-- the first layers in the order, as many as count, are solved
abbrev pub HoldsFirst : Shape → List (Option (Vec ℕ Global)) → DecodePlan → ℕ → ℕ → ℕ → List ℕ → Type 0
HoldsFirst g have plan at len count solved =
    (k : ℕ) → k < count → HoldsLayerRows g (λ word. Completes g have word) at len plan.points.items (get_or plan.layers.items k 0) solved

-- the byte stands at place p of the rows of some layers
pub record IsRowByte (g : Shape) (have : List (Option (Vec ℕ Global))) (plan : DecodePlan) (at len : ℕ) (layers : List ℕ) (p byte : ℕ) : Type 0 where
  pub value : (word : List (List ℕ)) → Completes g have word → (i e b : ℕ) → i < length layers → e < length plan.points.items → b < len
      → p ≡ (i * length plan.points.items + e) * len + b → byte ≡ uncoupled_byte g word (at + b) (get_or plan.points.items e 0) (get_or layers i 0)

-- a part of the rows of some layers, which begins at a place and has whole layers
pub record IsShare (part : ℕ) (layers : List ℕ) (start len : ℕ) : Type 0 where
  pub first : ℕ
  pub count : ℕ
  pub begins : start ≡ first * part
  pub long : len ≡ count * part
  pub inside : first + count ≤ length layers

-- Ranges that hold the erased nodes' uncoupled values.
use Rattle.std.specs.Prelude.{◌≡◌, ◌≢◌, ℕ, ◌<◌, true, List, [], length, get_or, All, Option, None, is_none, Vec}
use Rattle.std.specs.declared.alloc.Global.{Global}
use Rattle.clay_grid.specs.Shape.{Shape, layer_count, chunk_length}
use Rattle.clay_model.specs.Left.{Completes}
use Rattle.lane_repair.specs.Pieces.{HoldsByte}
use Rattle.clay_lanes.specs.Recovered.{HoldsLayerRows}
use Rattle.clay_lanes.specs.declared.recovery_plan.DecodePlan.{DecodePlan}
use Rattle.clay_par.specs.declared.ranges.Range.{Range}
use Rattle.clay_par.specs.Ranges.{HasRoom, IsCovered}

-- the range holds the erased nodes' values in every layer
pub record HoldsLayers (g : Shape) (have : List (Option (Vec ℕ Global))) (plan : DecodePlan) (range : Range) : Type 0 where
  pub room : HasRoom g (length plan.points.items) (layer_count g) range
  pub solved : (n : ℕ) → n < layer_count g
      → HoldsLayerRows g (λ word. Completes g have word) range.at (length range.values.items) plan.points.items n range.solved.items

-- ranges of all positions hold them
pub record AreSolved (g : Shape) (have : List (Option (Vec ℕ Global))) (plan : DecodePlan) (ranges : List Range) : Type 0 where
  pub each : All (HoldsLayers g have plan) ranges
  pub all : (b : ℕ) → b < g.width → IsCovered ranges b

-- the bytes are those of chunk c of each codeword that agrees with what is left
pub record IsChunk (g : Shape) (have : List (Option (Vec ℕ Global))) (c : ℕ) (chunk : List ℕ) : Type 0 where
  pub long : length chunk ≡ chunk_length g
  pub value : (word : List (List ℕ)) → Completes g have word → chunk ≡ get_or word c []

-- chunk c is written where it is missing, and else it stays
pub record IsFilled (g : Shape) (have : List (Option (Vec ℕ Global))) (c : ℕ) (old new : List ℕ) : Type 0 where
  pub missing : is_none (get_or have c None) ≡ true → (p : ℕ) → p < chunk_length g → HoldsByte (λ word. Completes g have word) c new p
  pub there : is_none (get_or have c None) ≢ true → new ≡ old

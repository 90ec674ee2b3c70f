-- What a run is read with.
use Rattle.std.specs.Prelude.{◌≡◌, ℕ, suc, ◌*◌, ◌≤◌, List, length, get_or, replicate}
use Rattle.clay_field.specs.Coupling.{gamma_inverse, determinant_inverse}
use Rattle.clay_grid.specs.Shape.{chunk_count, node_count, layer_count}
use Rattle.clay_grid.specs.Score.{count_below, IsByScore}
use Rattle.clay_model.specs.Erased.{erased_below}
use Rattle.generator_matrix.specs.Generated.{IsGeneratorOf}
use Rattle.lost_read.specs.Plan.{HasPlaces}
use Rattle.lost_layers.specs.Erased.{Erased}
use Rattle.lost_layers.specs.ErasedLayers.{is_solved}
use Rattle.lost_layers.specs.ErasedPieces.{pieces_of}
use Rattle.lost_read.specs.declared.missing_plan.MissingReadPlan.{MissingReadPlan}

-- how many layers below layer n are solved
abbrev pub rank : Erased → ℕ → ℕ
rank e n = count_below n (is_solved e)

-- the ranks of the layers up to a count
pub record AreRanks (e : Erased) (count : ℕ) (ranks : List ℕ) : Type 0 where
  pub len : length ranks ≡ suc count
  pub each : (n : ℕ) → n ≤ count → get_or ranks n 0 ≡ rank e n

-- the places of a run's pieces, the unknown nodes, their factors, the layers by score, their ranks, a subchunk of zeros, and the products of the
-- inverses of 2 and of 5
pub record IsMissingReadPlan (e : Erased) (plan : MissingReadPlan) : Type 0 where
  pub places_long : length plan.places.items ≡ chunk_count e.g * layer_count e.g
  pub places_are : HasPlaces e.g (pieces_of e) (length (pieces_of e)) plan.places.items
  pub few : length plan.points.items ≤ e.g.parity_count
  pub points_are : plan.points.items ≡ erased_below e.unknown (node_count e.g)
  pub generates : IsGeneratorOf e.g plan.points.items plan.generator.unknown plan.generator.each
  pub by_score : IsByScore e.g e.unknown plan.order.items
  pub ranks_are : AreRanks e (layer_count e.g) plan.ranks.items
  pub empty : plan.zeros.items ≡ replicate e.g.width 0
  pub halves_are : plan.halves ≡ gamma_inverse
  pub fifths_are : plan.fifths ≡ determinant_inverse

-- What a run is read with.
use Rattle.std.specs.Prelude.{◌≡◌, ℕ, ◌+◌, ◌*◌, ◌<◌, ◌≤◌, true, false, List, length, get_or, replicate}
use Rattle.clay_field.specs.Coupling.{gamma_inverse}
use Rattle.clay_grid.specs.Shape.{Shape, chunk_count, node_count, layer_count}
use Rattle.clay_model.specs.Erased.{erased_below}
use Rattle.generator_matrix.specs.Generated.{IsGeneratorOf}
use Rattle.lost_layers.specs.LostLayers.{is_solved, is_unknown}
use Rattle.lost_layers.specs.LostPieces.{lost_pieces_of, piece_at}
use Rattle.lost_layers.specs.Placing.{IsPlaced}
use Rattle.lost_layers.specs.declared.placed.PlacedRun.{PlacedRun}
use Rattle.lost_layers.specs.declared.run.LostPiece.{LostPiece}
use Rattle.lost_read.specs.declared.read_plan.ReadPlan.{ReadPlan}

-- each is a subchunk of the code
abbrev pub AreSubchunks : Shape → List LostPiece → Type 0
AreSubchunks g pieces =
    (r : ℕ) → r < length pieces
    → ((get_or pieces r (piece_at 0 0)).chunk < chunk_count g) × ((get_or pieces r (piece_at 0 0)).layer < layer_count g)

-- a chunk's subchunk stands at this place
pub record StandsFor (pieces : List LostPiece) (place chunk layer : ℕ) : Type 0 where
  pub within : place < length pieces
  pub is : get_or pieces place (piece_at 0 0) ≡ piece_at chunk layer

-- the piece r stands at this place too
pub record IsAt (pieces : List LostPiece) (r place : ℕ) : Type 0 where
  pub within : place < length pieces
  pub same : get_or pieces place (piece_at 0 0) ≡ get_or pieces r (piece_at 0 0)

-- for the subchunk of each of the first count pieces there is a place of it among them
abbrev pub HasPlaces : Shape → List LostPiece → ℕ → List ℕ → Type 0
HasPlaces g pieces count places =
    (r : ℕ) → r < count
    → IsAt pieces r (get_or places ((get_or pieces r (piece_at 0 0)).chunk * layer_count g + (get_or pieces r (piece_at 0 0)).layer) 0)

-- for the subchunk of each of a run's pieces there is a place of it among them
abbrev pub ArePlacesOf : PlacedRun → List ℕ → Type 0
ArePlacesOf placed places = HasPlaces placed.g (lost_pieces_of placed.g placed.run) (length (lost_pieces_of placed.g placed.run)) places

-- a run with its place, the places of its pieces, the nodes whose values are solved for, their factors, a subchunk of zeros, and the products
-- of the inverse of 2
pub record IsReadPlan (plan : ReadPlan) : Type 0 where
  pub placed_is : IsPlaced plan.placed
  pub places_long : length plan.places.items ≡ chunk_count plan.placed.g * layer_count plan.placed.g
  pub places_are : ArePlacesOf plan.placed plan.places.items
  pub nodes : length plan.erased.items ≡ node_count plan.placed.g
  pub erased_are : (n i : ℕ) → is_solved plan.placed.g plan.placed.run n ≡ true → i < node_count plan.placed.g
      → get_or plan.erased.items i false ≡ is_unknown plan.placed.g plan.placed.run n i
  pub few : length plan.points.items ≤ plan.placed.g.parity_count
  pub points_are : plan.points.items ≡ erased_below plan.erased.items (node_count plan.placed.g)
  pub generates : IsGeneratorOf plan.placed.g plan.points.items plan.generator.unknown plan.generator.each
  pub empty : plan.zeros.items ≡ replicate plan.placed.g.width 0
  pub halves_are : plan.halves ≡ gamma_inverse

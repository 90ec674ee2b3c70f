-- Which chunks stand for the nodes, and where their subchunks stand.
use Rattle.std.specs.Prelude.{◌≡◌, ℕ, ◌<◌, List, length, get_or, replicate, Option, None}
use Rattle.clay_grid.specs.Shape.{node_count, layer_count}
use Rattle.clay_aloof.specs.Shape.{AloofShape, grid_of}
use Rattle.clay_aloof.specs.Limits.{IsAloof}
use Rattle.clay_aloof.specs.declared.known.Tables.{Tables}

-- such an entry for each node, such places for the layers, and a subchunk of zeros
pub record AreTables (a : AloofShape) (entry : ℕ → Option ℕ → Type 0) (placed : List ℕ → Type 0) (tables : Tables) : Type 0 where
  pub aloof : IsAloof a
  pub nodes : length tables.chunks.items ≡ node_count (grid_of a)
  pub entries : (i : ℕ) → i < node_count (grid_of a) → entry i (get_or tables.chunks.items i None)
  pub layers : length tables.places.items ≡ layer_count (grid_of a)
  pub placed_are : placed tables.places.items
  pub empty : tables.zeros.items ≡ replicate a.width 0

-- each layer stands at its own place
abbrev pub AreOwnPlaces : AloofShape → List ℕ → Type 0
AreOwnPlaces a places = (n : ℕ) → n < layer_count (grid_of a) → get_or places n 0 ≡ n

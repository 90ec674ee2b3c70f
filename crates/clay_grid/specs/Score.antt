-- The score of a layer, by which layers are decoded.
use Rattle.std.specs.Prelude.{◌≡◌, ℕ, zero, suc, ◌+◌, ◌/◌, ◌%◌, ◌<◌, ◌⊎◌, Bool, false, cond, ◌&&◌, nat_eq, List, length, get_or, filter}
use Rattle.std.specs.List.{range_with_len}
use Rattle.clay_grid.specs.Shape.{Shape, row_count, node_count, layer_count}
use Rattle.clay_grid.specs.Layers.{layer_of}

-- how many numbers below n pass the test
abbrev pub count_below : ℕ → (ℕ → Bool) → ℕ
count_below zero test = 0
count_below (suc n) test = count_below n test + cond (test n) 1 0

-- whether node i is erased and stands in the row that the layer's digit of its column names
abbrev pub is_met : ℕ → List Bool → List ℕ → ℕ → Bool
is_met q erased z i = get_or erased i false && nat_eq (get_or z (i / q) 0) (i % q)

-- the score of a layer: how many erased nodes (x, y) there are of which its digit y is x
abbrev pub score_of : Shape → List Bool → List ℕ → ℕ
score_of g erased z = count_below (node_count g) (is_met (row_count g) erased z)

-- the score of the layer with a number
abbrev pub score_at : Shape → List Bool → ℕ → ℕ
score_at g erased z = score_of g erased (layer_of g z)

-- layer w goes before layer z: its score is lower, or equal and its number is lower
abbrev pub GoesBefore : Shape → List Bool → ℕ → ℕ → Type 0
GoesBefore g erased w z = (score_at g erased w < score_at g erased z) ⊎ ((score_at g erased w ≡ score_at g erased z) × (w < z))

-- the numbers of all layers, each of which goes before the later ones
pub record IsByScore (g : Shape) (erased : List Bool) (layers : List ℕ) : Type 0 where
  pub rising : (i j : ℕ) → i < j → j < length layers → GoesBefore g erased (get_or layers i 0) (get_or layers j 0)
  pub only_layers : (i : ℕ) → i < length layers → get_or layers i 0 < layer_count g
  pub each_layer : (z : ℕ) → z < layer_count g → (i : ℕ) × (i < length layers) × (get_or layers i 0 ≡ z)

-- the places in a list of scores at which a score stands, rising
abbrev pub places_of : List ℕ → ℕ → List ℕ
places_of scores score = filter (λ z. nat_eq (get_or scores z 0) score) (range_with_len 0 (length scores))

-- A layer as its list of digits, the most significant first.
use Rattle.std.specs.Prelude.{◌≡◌, ℕ, zero, suc, ◌+◌, ◌*◌, ◌/◌, ◌%◌, ◌^◌, ◌<◌, List, [], ◌∷◌, length, get_or, set}
use Rattle.clay_grid.specs.Shape.{Shape, row_count, column_count}

-- the t digits of a number below q^t
unfoldable pub digits_of : ℕ → ℕ → ℕ → List ℕ
digits_of q zero n = []
digits_of q (suc t) n = n / q ^ t % q ∷ digits_of q t n

-- the number of a layer
abbrev pub index_of : ℕ → List ℕ → ℕ
index_of q [] = 0
index_of q (d ∷ ds) = d * q ^ length ds + index_of q ds

-- a layer has t digits below q
pub record IsLayer (q t : ℕ) (z : List ℕ) : Type 0 where
  pub long : length z ≡ t
  pub digits : (y : ℕ) → y < t → get_or z y 0 < q

-- the layer of a number
abbrev pub layer_of : Shape → ℕ → List ℕ
layer_of g z = digits_of (row_count g) (column_count g) z

-- a vertex: a row, a column and a layer
pub record PlacedVertex : Type 0 where
  pub row : ℕ
  pub column : ℕ
  pub layer : List ℕ

-- the vertex at row x and column y of the layer with the number z
abbrev pub vertex_at : Shape → ℕ → ℕ → ℕ → PlacedVertex
vertex_at g x y z = record { row = x; column = y; layer = layer_of g z }

-- the partner of a vertex: the row is the digit of the column, and that digit becomes the row; a vertex with no partner is its own
abbrev pub partner_of : PlacedVertex → PlacedVertex
partner_of v = record { row = get_or v.layer v.column 0; column = v.column; layer = set v.layer v.column v.row }

-- The tables by which the partner of a subchunk is found.
use Rattle.std.specs.Prelude.{◌≡◌, ℕ, ◌-◌, ◌*◌, ◌/◌, ◌%◌, ◌^◌, ◌<◌, List, length, get_or, Vec}
use Rattle.std.specs.declared.alloc.Global.{Global}
use Rattle.clay_grid.specs.Shape.{Shape, row_count, column_count, node_count, layer_count}
use Rattle.clay_grid.specs.Limits.{IsGeometry}
use Rattle.clay_aloof.specs.declared.partner_tables.NodePlace.{NodePlace}
use Rattle.clay_aloof.specs.declared.partner_tables.Digit.{Digit}

-- what a digit of column y counts in a layer's number
abbrev pub stride_of : Shape → ℕ → ℕ
stride_of g y = row_count g ^ (column_count g - 1 - y)

-- a node's column, the column's first node, and what the node's row counts as the column's digit
pub record IsPlace (g : Shape) (i : ℕ) (place : NodePlace) : Type 0 where
  pub column : place.column ≡ i / row_count g
  pub first : place.first ≡ i / row_count g * row_count g
  pub counts : place.counts ≡ i % row_count g * stride_of g (i / row_count g)

-- digit y of layer n, and the layer's number with 0 in its place
pub record IsDigit (g : Shape) (y n : ℕ) (digit : Digit) : Type 0 where
  pub value : digit.value ≡ n / stride_of g y % row_count g
  pub rest : digit.rest ≡ n - n / stride_of g y % row_count g * stride_of g y

-- the places of the first count nodes
pub record HoldsPlaces (g : Shape) (count : ℕ) (places : List NodePlace) : Type 0 where
  pub long : length places ≡ count
  pub each : (i : ℕ) (default : NodePlace) → i < count → IsPlace g i (get_or places i default)

-- digit y of the first count layers
pub record HoldsDigits (g : Shape) (y count : ℕ) (digits : List Digit) : Type 0 where
  pub long : length digits ≡ count
  pub each : (n : ℕ) (default : Digit) → n < count → IsDigit g y n (get_or digits n default)

-- the first count digits of all layers
pub record HoldsColumns (g : Shape) (count : ℕ) (columns : List (Vec Digit Global)) : Type 0 where
  pub long : length columns ≡ count
  pub each : (y : ℕ) (default : Vec Digit Global) → y < count → HoldsDigits g y (layer_count g) (get_or columns y default).items

pub record HasTables (g : Shape) (places : List NodePlace) (columns : List (Vec Digit Global)) : Type 0 where
  pub geometry : IsGeometry g
  pub of_nodes : HoldsPlaces g (node_count g) places
  pub of_layers : HoldsColumns g (column_count g) columns

-- A group of layers with short subchunks: m rows of m subchunks of w bytes, those of a node one behind another.
use Rattle.std.specs.Prelude.{◌≡◌, ℕ, ◌+◌, ◌*◌, ◌/◌, ◌%◌, ◌<◌, cond, eqb, List, get_or, bit_xor}
use Rattle.clay_field.specs.Coupling.{gamma, determinant}
use Rattle.clay_field.specs.Field.{product, quotient}

-- the rows hold the values of the layers from m * number on
pub record HoldsShort (m w number : ℕ) (value : ℕ → ℕ → ℕ → ℕ) (rows : List ℕ) : Type 0 where
  pub at : (e d b : ℕ) → e < m → d < m → b < w → get_or rows ((e * m + d) * w + b) 0 ≡ value (number * m + d) e b

-- the coupled byte o of row x, where the partner of subchunk d is subchunk x of row d
abbrev pub short_coupled : ℕ → ℕ → List ℕ → ℕ → ℕ → ℕ
short_coupled m w rows x o =
    cond (eqb x (o / w)) (get_or rows (x * (m * w) + o) 0)
    (quotient (bit_xor (get_or rows (x * (m * w) + o) 0) (product gamma (get_or rows ((o / w * m + x) * w + o % w) 0))) determinant)
